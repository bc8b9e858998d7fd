-- What calls keep: table, password and sessions where nothing privileged comes, and one open session at the most for a node.
use Rattle.std.specs.Prelude.{ℕ, ◌≤◌, ◌≡◌, List}
use Rattle.sessions.specs.Sessions.{slots_of}
use Rattle.sessions.specs.Holders.{holders}
use Rattle.rules.specs.declared.Hub.{Hub}

-- a hub h and a table t, and what they became: table, password and sessions are the same
pub record Unchanged (h : Hub) (t : List ℕ) (k : Hub) (u : List ℕ) : Type 0 where
  pub table : u ≡ t
  pub password : k.password ≡ h.password
  pub sessions : k.slots ≡ h.slots

-- node n is in one open session at the most
abbrev pub OneAtMost : ℕ → Hub → Type 0
OneAtMost n h = holders n (slots_of h.slots) ≤ 1
