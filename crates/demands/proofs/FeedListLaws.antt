-- Every list of feeds can be run, from any memory; what demand 3 supposes of a list can come.
use Rattle.std.specs.Prelude.{ℕ, ◌<◌, ◌≡◌, refl, Bool, length, get_or}
use Rattle.std.proofs.Common.{sym, ap, ap₂, ◌∙◌, arith}
use mathlib.Core.List.{List, [], ◌∷◌, map, append-nil, flatten}
use Rattle.std.proofs.lemmas.List.{length-map}
use Rattle.std.proofs.Math.ListN.{get_or-map}
use Rattle.frame.specs.Reader.{emptied, emptied_reading, taken, final, step}
use Rattle.nodes.specs.Table.{table_size}
use Rattle.feeds.specs.System.{Entry}
use Rattle.feeds.specs.Marks.{used_on, unmarked, answers_of}
use Rattle.feeds.specs.Serving.{in_pieces}
use Rattle.feeds.proofs.SystemLaws.{own, told-final}
use Rattle.feeds.proofs.Reach.{pieces_every}
use Rattle.feeds.proofs.Runs.{lent_of, lent-entries}
use Rattle.feeds.specs.Service.{Lent, Got, entry_of, world_of, record_for, left_by, entries_in, used_in}
use Rattle.feeds.proofs.ServiceLaws.{map-unmarked, run_answers, run_end}
use Rattle.feeds.specs.Demand3.{Line, record_at, Without}
use Rattle.feeds.proofs.Demand3.{own-taken, has_line}
use Rattle.rules.specs.Hub.{hub, line_count}
use Rattle.rules.specs.Answers.{fed_of}
use Rattle.rules.proofs.Longest.{longest_reply}
use Rattle.demands.specs.Calls.{World}
use Rattle.demands.specs.Steps.{Memory}
use Rattle.demands.proofs.Kept.{feed-any}
use Rattle.demands.proofs.Feeds as feeding
use Rattle.demands.specs.FeedLists.{Run, stop, next, FeedList}
use Rattle.demands.proofs.FeedLists.{feeds_of}

pub run_any : (m : Memory) (gs : List Lent) → (os : List (Got hub)) × (e : Memory) × Run m gs os e
run_any m [] = ([], m, stop)
run_any m (g ∷ gs) =
    let (a, h, t, r, left, x) = feed-any m.hub m.table (record_for hub m g) g.line g.bytes g.room in
    let (os, e, y) = run_any (left_by hub m g (fed_of a h t r left)) gs in
    (fed_of a h t r left ∷ os, e, next x y)

-- a list without the marked feeds can be run, to compare with
pub list_without : (m : List Bool) (F : FeedList) → (G : FeedList) × Without m (feeds_of F) (feeds_of G)
list_without m F =
    let (os, e, r) = run_any F.start (unmarked m F.lent) in
    (record { start = F.start; lent = unmarked m F.lent; got = os; end = e; run = r }, record { start = refl; entries = map-unmarked entry_of m F.lent })

-- any bytes can be those used on a line, from any memory with a right table and four records
pub list-used : (m : Memory) (l : ℕ) → l < line_count → length m.table ≡ table_size → length m.records ≡ line_count → (bytes : List ℕ)
    → (F : FeedList) × (F.start ≡ m) × (used_in l (feeds_of F) ≡ bytes)
unfolding world_of flatten
list-used m l h size four bytes =
    let w : World = world_of m in
    let es : List Entry = in_pieces hub l longest_reply emptied w (bytes ∷ []) in
    let (os, e, r) = run_any m (map lent_of es) in
    let F : FeedList = record { start = m; lent = map lent_of es; got = os; end = e; run = r } in
    let same : entries_in (feeds_of F) ≡ es = lent-entries es (pieces_every hub l longest_reply emptied (λ x. x.spare ≡ emptied) (λ bs. refl) (bytes ∷ []) w) in
    let used = feeding.used_up w l longest_reply emptied h (omega arith) size (length-map m.records taken ∙ four) (bytes ∷ []) ∙ append-nil bytes in
    (F, refl, ap (used_on l (entries_in (feeds_of F))) (run_answers (feeds_of F)) ∙ ap (λ (x : List Entry). used_on l x (answers_of hub w x)) same ∙ used)

-- a line's record at the end of a list on all lines is the definition's, by the bytes used on it
pub list-kept : (l : ℕ) (F : FeedList) → Line l (feeds_of F) → taken (get_or F.end.records l emptied_reading) ≡ final step (taken (record_at l (feeds_of F))) (used_in l (feeds_of F))
unfolding world_of
list-kept l F line =
    let G = feeds_of F in
    let w : World = world_of F.start in
    let es : List Entry = entries_in G in
    sym (get_or-map taken F.end.records l emptied_reading)
    ∙ ap (λ (x : World). own hub l x) (run_end G)
    ∙ told-final hub l es w (has_line l G line)
    ∙ ap₂ (final step) (own-taken l G) (ap (used_on l es) (sym (run_answers G)))
