use Rattle.std.specs.Prelude.{◌≡◌, refl}
use Rattle.std.proofs.Common.{arith, add-one}
use Rattle.std.proofs.Math.ListN.{length-set}
use Rattle.line.specs.WireLaws.{escape_end, escape_esc, escape-plain}
use Rattle.frame.proofs.writer.put.Goals as goal

pub bounds-room-at : goal.bounds-room-at
bounds-room-at c = omega (arith, simp (escape_end _ c.in-192.is) at c.requires)

pub bounds-room-at-in-192 : goal.bounds-room-at-in-192
bounds-room-at-in-192 c = simp length-set (omega (arith, simp (escape_end _ c.in-192.is) at c.requires))

pub bounds-room-at-in-219 : goal.bounds-room-at-in-219
bounds-room-at-in-219 c = omega (arith, simp (escape_esc _ c.in-219.is) at c.requires)

pub bounds-room-at-in-219-2 : goal.bounds-room-at-in-219-2
bounds-room-at-in-219-2 c = simp length-set (omega (arith, simp (escape_esc _ c.in-219.is) at c.requires))

pub bounds-room-at-in_default : goal.bounds-room-at-in_default
bounds-room-at-in_default c =
    let no_end : c.args.b ≡ 192 → ⊥ = λ (e : c.args.b ≡ 192). omega arith in
    let no_esc : c.args.b ≡ 219 → ⊥ = λ (e : c.args.b ≡ 219). omega arith in
    omega (arith, simp (escape-plain _ no_end no_esc) at c.requires)

pub returns-in-192 : goal.returns-in-192
returns-in-192 c = simp (escape_end _ c.in-192.is, add-one) (record { content = refl; place = refl })

pub returns-in-219 : goal.returns-in-219
returns-in-219 c = simp (escape_esc _ c.in-219.is, add-one) (record { content = refl; place = refl })

pub returns-in_default : goal.returns-in_default
returns-in_default c =
    let no_end : c.args.b ≡ 192 → ⊥ = λ (e : c.args.b ≡ 192). omega arith in
    let no_esc : c.args.b ≡ 219 → ⊥ = λ (e : c.args.b ≡ 219). omega arith in
    simp (escape-plain _ no_end no_esc) (record { content = refl; place = refl })
