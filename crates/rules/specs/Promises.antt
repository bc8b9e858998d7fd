-- What the calls promise, by what each is lent and what is got back: the answer, the hub, and table, record and room as they lie afterwards.
-- Close and feed keep the same promise on a lent record, which is changed where it lies, and on one that goes in and out by value.
use Rattle.std.specs.Prelude.{ℕ, ◌≡◌, List, ◌++◌, length, drop}
use Rattle.std.proofs.Math.Option.{some}
use Rattle.line.specs.declared.Reading.{Reading}
use Rattle.frame.specs.Reader.{taken}
use Rattle.feeds.specs.System.{refused, call}
use Rattle.rules.specs.declared.Hub.{Hub}
use Rattle.rules.specs.Hub.{start, enrol, close, finish, hub as system}
use Rattle.rules.specs.Answers.{CallAnswer, FinishAnswer, FeedAnswer, refusal_of, started_of, enrolled_of, finish_of, answer_of, BoundedClosed, BoundedFed}

-- Start: lent the hub h and the table t, it answers a, and leaves the hub h' and the table t'; refusal, hub and table are the definition's.
abbrev pub Starts : Hub → List ℕ → List ℕ → CallAnswer → Hub → List ℕ → Type 0
Starts h t p a h' t' = started_of a h' t' ≡ start h t p

-- Enrol: lent the table t, it answers a, and leaves the table t'; refusal and table are the definition's.
abbrev pub Enrols : List ℕ → ℕ → ℕ → CallAnswer → List ℕ → Type 0
Enrols t n type a t' = enrolled_of a t' ≡ enrol t n type

-- Close a line: lent the hub h and the record s, it answers a, and leaves the hub h' and the record e. Refusal, hub and record as taken are the
-- definition's; a refused call leaves the record as it lies. Left to the program otherwise: the places of the record's array, of which none is held.
pub record Closes (h : Hub) (s : Reading) (l : ℕ) (a : CallAnswer) (h' : Hub) (e : Reading) : Type 0 where
  pub refusal : refusal_of a ≡ (close h (taken s) l).refusal
  pub hub : h' ≡ (close h (taken s) l).hub
  pub state : taken e ≡ (close h (taken s) l).state
  pub kept : (n : ℕ) → refusal_of a ≡ some n → e ≡ s
  pub bounded : BoundedClosed a e

-- Finish a session: lent the hub h and the room `space`, it answers a, and leaves the hub h' and the room `left`. Answer, hub and reply are the
-- definition's, and bytes behind the reply stay.
pub record Finishes (h : Hub) (x : ℕ) (space : List ℕ) (a : FinishAnswer) (h' : Hub) (left : List ℕ) : Type 0 where
  pub answer : finish_of a ≡ (finish h x (length space)).answer
  pub hub : h' ≡ (finish h x (length space)).hub
  pub room : left ≡ (finish h x (length space)).reply ++ drop (length (finish h x (length space)).reply) space

-- Feed: lent the hub h, the table t, the record s and the room `space`, it answers a, and leaves the hub h', the table t', the record e and the
-- room `left`. Hub, table, record as taken, answer and reply are those of the definition's call (crate feeds, specs/System.antt: call); the reply
-- stands at the room's front and the bytes behind it stay; a refused call leaves the record as it lies. Left to the program otherwise: the places
-- of the record's array beyond the bytes held and, where a frame is told, those outside its data.
pub record Feeds (h : Hub) (t : List ℕ) (s : Reading) (l : ℕ) (bytes space : List ℕ) (a : FeedAnswer) (h' : Hub) (t' : List ℕ) (e : Reading) (left : List ℕ) : Type 0 where
  pub hub : h' ≡ (call system h t (taken s) l bytes (length space)).hub
  pub table : t' ≡ (call system h t (taken s) l bytes (length space)).table
  pub state : taken e ≡ (call system h t (taken s) l bytes (length space)).state
  pub answer : answer_of a e.bytes ≡ (call system h t (taken s) l bytes (length space)).result.answer
  pub room : left ≡ (call system h t (taken s) l bytes (length space)).result.reply ++ drop (length (call system h t (taken s) l bytes (length space)).result.reply) space
  pub kept : (n : ℕ) → answer_of a e.bytes ≡ refused n → e ≡ s
  pub bounded : BoundedFed a e
