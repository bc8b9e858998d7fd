use Rattle.requests.specs.Answers.{reading_at}
use Rattle.rounds.specs.Rounds.{Kept, Sent, Rounds}
use Rattle.rounds.proofs.rounds_finish.Given as goal

-- as many rounds are made as are counted, from what the login left
abbrev pub invariant-loop : goal.invariant-loop
invariant-loop l =
    let start : Kept = record { hub = l.initial.kept; table = l.initial.table; reading = reading_at l.initial.held l.initial.cursor; room = l.initial.room } in
    Rounds (Sent l.bytes l.session) l.counter start l.len (record { hub = l.kept; table = l.table; reading = reading_at l.held l.cursor; room = l.room })
