-- Calls made one after another on line 0, each on what the one before left.
use Rattle.std.specs.Prelude.{ℕ, ◌+◌, ◌≡◌, List, Ok, Err}
use Rattle.line.specs.declared.Reading.{Reading}
use Rattle.frame.specs.Reader.{emptied_reading}
use Rattle.rules.specs.declared.Hub.{Hub}
use Rattle.rules.specs.Answers.{FinishAnswer, FeedAnswer}
use Rattle.rules.specs.Hub.{first_hub}
use Rattle.rules.specs.Promises.{Feeds, Finishes}

-- what is kept from call to call
pub record Kept : Type 0 where
  pub hub : Hub
  pub table : List ℕ
  pub reading : Reading
  pub room : List ℕ

-- the length of the reply that an answer tells
abbrev pub fed_length : FeedAnswer → ℕ
fed_length (Ok x) = x.len
fed_length (Err why) = 0

abbrev pub finished_length : FinishAnswer → ℕ
finished_length (Ok n) = n.len
finished_length (Err why) = 0

-- a feed of the bytes w, with a reply of n bytes
pub record Fed (w : List ℕ) (k : Kept) (n : ℕ) (k' : Kept) : Type 0 where
  pub answer : FeedAnswer
  pub feeds : Feeds k.hub k.table k.reading 0 w k.room answer k'.hub k'.table k'.reading k'.room
  pub length : n ≡ fed_length answer

-- a session finished, with a frame of n bytes
pub record Finished (x : ℕ) (k : Kept) (n : ℕ) (k' : Kept) : Type 0 where
  pub answer : FinishAnswer
  pub finishes : Finishes k.hub x k.room answer k'.hub k'.room
  pub table : k'.table ≡ k.table
  pub reading : k'.reading ≡ k.reading
  pub length : n ≡ finished_length answer

-- both, one after the other
pub record Sent (w : List ℕ) (x : ℕ) (k : Kept) (n : ℕ) (k' : Kept) : Type 0 where
  pub reply : ℕ
  pub between : Kept
  pub fed : Fed w k reply between
  pub finished : Finished x between n k'

-- so many rounds of a call; told is the length that the last one tells
pub data Rounds (Call : Kept → ℕ → Kept → Type 0) : ℕ → Kept → ℕ → Kept → Type 0 where
  none : {k : Kept} → Rounds Call 0 k 0 k
  more : {i m n : ℕ} {k l k' : Kept} → Rounds Call i k m l → Call l n k' → Rounds Call (i + 1) k n k'

-- The promise: on a hub before any start, `login` is fed once, then come i rounds of a call; told is the length n.
pub record Makes (Call : Kept → ℕ → Kept → Type 0) (login : List ℕ) (i : ℕ) (t space : List ℕ) (n : ℕ) (t' left : List ℕ) : Type 0 where
  pub reply : ℕ
  pub entered : Kept
  pub last : Kept
  pub enters : Fed login (record { hub = first_hub; table = t; reading = emptied_reading; room = space }) reply entered
  pub rounds : Rounds Call i entered n last
  pub table : last.table ≡ t'
  pub room : last.room ≡ left
