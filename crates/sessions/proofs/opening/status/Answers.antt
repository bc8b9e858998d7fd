use Rattle.sessions.specs.Sessions.{slots_of, is_free, is_numbered, is_legal, mode_send_status}
use Rattle.sessions.specs.Search.{any}
use mathlib.Core.Path.{◌≡◌, sym, ◌∙◌}
use mathlib.Core.Bool.{true, false}
use Rattle.sessions.proofs.opening.status.Goals as goal

pub returns-then-not-is_legal : goal.returns-then-not-is_legal
unfolding mode_send_status
returns-then-not-is_legal c = simp (sym c.is_legal.ensures ∙ c.if-not-is_legal.true)

pub returns-then-is_number_open : goal.returns-then-is_number_open
unfolding mode_send_status
returns-then-is_number_open c =
    let legal : is_legal c.args.table.now c.args.request ≡ true = sym c.is_legal.ensures ∙ c.if-not-is_legal.false in
    simp (legal, sym c.is_number_open.ensures ∙ c.if-is_number_open.true)

pub returns-then-not-has_free : goal.returns-then-not-has_free
unfolding mode_send_status
returns-then-not-has_free c =
    let legal : is_legal c.args.table.now c.args.request ≡ true = sym c.is_legal.ensures ∙ c.if-not-is_legal.false in
    let unnumbered : any (is_numbered c.args.request.session) (slots_of c.args.slots.now) ≡ false = sym c.is_number_open.ensures ∙ c.if-is_number_open.false in
    simp (legal, unnumbered, sym c.has_free.ensures ∙ c.if-not-has_free.true)

pub returns-then-any_held : goal.returns-then-any_held
unfolding mode_send_status
returns-then-any_held c =
    let legal : is_legal c.args.table.now c.args.request ≡ true = sym c.is_legal.ensures ∙ c.if-not-is_legal.false in
    let unnumbered : any (is_numbered c.args.request.session) (slots_of c.args.slots.now) ≡ false = sym c.is_number_open.ensures ∙ c.if-is_number_open.false in
    let free : any is_free (slots_of c.args.slots.now) ≡ true = sym c.has_free.ensures ∙ c.if-not-has_free.false in
    simp (legal, unnumbered, free, rw c.from.ensures at (sym c.any_held.ensures ∙ c.if-any_held.true))

pub returns : goal.returns
unfolding mode_send_status
returns c =
    let legal : is_legal c.args.table.now c.args.request ≡ true = sym c.is_legal.ensures ∙ c.if-not-is_legal.false in
    let unnumbered : any (is_numbered c.args.request.session) (slots_of c.args.slots.now) ≡ false = sym c.is_number_open.ensures ∙ c.if-is_number_open.false in
    let free : any is_free (slots_of c.args.slots.now) ≡ true = sym c.has_free.ensures ∙ c.if-not-has_free.false in
    simp (legal, unnumbered, free, rw c.from.ensures at (sym c.any_held.ensures ∙ c.if-any_held.false))
