-- All that demand 3 asks of this hub: a refused packet brings the error frame 0000 with byte 2 and changes nothing.
use Rattle.std.specs.Prelude.{refl}
use Rattle.frame.specs.Frame.{wire, escape, framed, body}
use Rattle.frame.specs.Xor as xor
use Rattle.feeds.specs.System.{OnlyErrorReply}
use Rattle.replies.specs.Messages.{bytes_of}
use Rattle.rules.specs.Hub.{respond, serve, hub}

pub only_error_reply : OnlyErrorReply hub
unfolding serve respond bytes_of wire escape framed body xor.xor_all xor.◌⊕◌
only_error_reply h t l n = refl
