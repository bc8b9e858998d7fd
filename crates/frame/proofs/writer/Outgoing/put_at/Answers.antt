use Rattle.std.specs.Prelude.{ℕ, ◌+◌, ◌<◌, ◌≤◌, ◌≡◌, List, [], ◌∷◌, ◌++◌, length, set}
use Rattle.std.proofs.Common.{arith, length-append}
use Rattle.std.proofs.Math.ListN.{length-set}
use Rattle.memory.specs.Wrote.{Wrote}
use Rattle.memory.specs.WroteLaws.{one, then, kept}
use Rattle.line.specs.Wire.{END, escape}
use Rattle.frame.specs.Frame.{head_of, wire}
use Rattle.frame.specs.Writer.{check}
use Rattle.frame.specs.WireLaws.{wire_parts, wire-length}
use Rattle.frame.proofs.writer.Outgoing.put_at.Goals as goal

-- what stands in the room behind the head, behind the data and behind the check byte
module _ (c : ℕ) (d room : List ℕ) (start : ℕ) where
  behind_head : {h r : List ℕ} {a : ℕ} → h ≡ head_of c (length d) → Wrote (set room start END) (start + 1) (escape h) r a
      → Wrote room start ((END ∷ []) ++ escape (head_of c (length d))) r a
  behind_head e w = then (one _ _ _) (rw e at w)

  behind_data : {h r s : List ℕ} {a b : ℕ} → h ≡ head_of c (length d) → Wrote (set room start END) (start + 1) (escape h) r a → Wrote r a (escape d) s b
      → Wrote room start ((END ∷ []) ++ escape (head_of c (length d)) ++ escape d) s b
  behind_data e w x = then (behind_head e w) x

  behind_check : {h r s t : List ℕ} {a b e k : ℕ} → h ≡ head_of c (length d) → k ≡ check c d
      → Wrote (set room start END) (start + 1) (escape h) r a → Wrote r a (escape d) s b → Wrote s b (escape (k ∷ [])) t e
      → Wrote room start ((END ∷ []) ++ escape (head_of c (length d)) ++ escape d ++ escape (check c d ∷ [])) t e
  behind_check e f w x y = then (behind_data e w x) (rw f at y)

  -- room in which the wire form fits has a byte left for the last END, and is as long as it was
  end_fits : {t : List ℕ} {e : ℕ} → start + length (wire c d) ≤ length room
      → Wrote room start ((END ∷ []) ++ escape (head_of c (length d)) ++ escape d ++ escape (check c d ∷ [])) t e → (e < length t) × (length t ≡ length room)
  end_fits fits w =
      let at = simp length-append at w.place in
      (omega (arith, fits, wire-length c d, kept w, at), kept w)

pub bounds-room-start : goal.bounds-room-start
bounds-room-start c = let f = c.args.self in omega (arith, c.requires, wire-length f.command f.payload.now)

pub put_all-a-requires : goal.put_all-a-requires
put_all-a-requires c =
    let f = c.args.self in
    rw c.head.ensures (simp length-set (omega (arith, c.requires, wire-length f.command f.payload.now)))

pub put_all-b-requires : goal.put_all-b-requires
put_all-b-requires c =
    let f = c.args.self in
    let w = behind_head f.command f.payload.now _ _ c.head.ensures c.put_all-a.ensures in
    omega (arith, c.requires, wire-length f.command f.payload.now, kept w, simp length-append at w.place)

pub put-e-requires : goal.put-e-requires
put-e-requires c =
    let f = c.args.self in
    let w = behind_data f.command f.payload.now _ _ c.head.ensures c.put_all-a.ensures c.put_all-b.ensures in
    rw c.check-check.ensures (omega (arith, c.requires, wire-length f.command f.payload.now, kept w, simp length-append at w.place))

pub bounds-room-e : goal.bounds-room-e
bounds-room-e c =
    let f = c.args.self in
    let w = behind_check f.command f.payload.now _ _ c.head.ensures c.check-check.ensures c.put_all-a.ensures c.put_all-b.ensures c.put-e.ensures in
    (end_fits f.command f.payload.now _ _ c.requires w).0

pub overflow_add-result : goal.overflow_add-result
overflow_add-result c =
    let f = c.args.self in
    let w = behind_check f.command f.payload.now _ _ c.head.ensures c.check-check.ensures c.put_all-a.ensures c.put_all-b.ensures c.put-e.ensures in
    let (end, same) = end_fits f.command f.payload.now _ _ c.requires w in
    omega (arith, end, same)

pub shape_of-room : goal.shape_of-room
shape_of-room c =
    let f = c.args.self in
    let w = behind_check f.command f.payload.now _ _ c.head.ensures c.check-check.ensures c.put_all-a.ensures c.put_all-b.ensures c.put-e.ensures in
    kept (then w (one _ _ _))

pub returns : goal.returns
returns c =
    let f = c.args.self in
    let w = behind_check f.command f.payload.now _ _ c.head.ensures c.check-check.ensures c.put_all-a.ensures c.put_all-b.ensures c.put-e.ensures in
    rw wire_parts (then w (one _ _ _))
