-- What every check asks of a packet, together. proofs/JudgeLaws.antt: accepted-judge, judge-accepted says that the judge gives a frame exactly then.
use Rattle.std.specs.Prelude.{ℕ, ◌≤◌, ◌≡◌, List, length, get_or}
use Rattle.line.specs.Reader.{limit}
use Rattle.frame.specs.Xor.{xor_all}
use Rattle.frame.specs.Frame.{around, claimed}

-- what the checks ask of a packet
pub record Accepted (h : List ℕ) : Type 0 where
  pub at_most : length h ≤ limit
  pub at_least : around ≤ length h
  pub protocol : get_or h 0 0 ≡ 0
  pub count : claimed h ≡ length h
  pub check : xor_all h ≡ 0
