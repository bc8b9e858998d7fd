-- Entering, changing and starting go by the bytes before the first zero, on both sides, and by all of these.
use Rattle.std.specs.Prelude.{ℕ, ◌≡◌, List, length}
use Rattle.passwords.specs.Passwords.{password_of, stored}
use Rattle.passwords.proofs.PasswordLaws.{is_same_equal, is_same-other, stored_password}
use Rattle.nodes.specs.Table.{table_size}
use Rattle.rules.specs.declared.Hub.{Hub}
use Rattle.rules.specs.Hub.{with_login, with_password, enter, change, start}
use Rattle.rules.proofs.RefusalLaws.{start-done}

pub enter-right : (h : Hub) (l : ℕ) (d : List ℕ) → password_of d ≡ password_of h.password → enter h l d ≡ record { status = 0; hub = with_login h l }
unfolding enter
enter-right h l d e = rw (is_same_equal d h.password e)

pub enter_wrong : (h : Hub) (l : ℕ) (d : List ℕ) → (password_of d ≡ password_of h.password → ⊥) → enter h l d ≡ record { status = 1; hub = h }
unfolding enter
enter_wrong h l d x = rw (is_same-other d h.password x)

pub change-right : (h : Hub) (old new : List ℕ) → password_of old ≡ password_of h.password → change h old new ≡ record { status = 0; hub = with_password h (stored new) }
unfolding change
change-right h old new e = rw (is_same_equal old h.password e)

pub change_wrong : (h : Hub) (old new : List ℕ) → (password_of old ≡ password_of h.password → ⊥) → change h old new ≡ record { status = 1; hub = h }
unfolding change
change_wrong h old new x = rw (is_same-other old h.password x)

-- the password that a start or a change was given is the one that counts from then on
pub start-stores : (h : Hub) (t p : List ℕ) → length t ≡ table_size → length p ≡ 32 → password_of (start h t p).hub.password ≡ password_of p
start-stores h t p e k = rw (start-done h t p e k) (stored_password p)

pub change-stores : (h : Hub) (old new : List ℕ) → password_of old ≡ password_of h.password → password_of (change h old new).hub.password ≡ password_of new
change-stores h old new e = rw (change-right h old new e) (stored_password new)
