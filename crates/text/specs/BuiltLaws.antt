-- A line is built piece by piece, and then it is taken from the front.
use Rattle.std.specs.Prelude.{ℕ, ◌+◌, ◌-◌, ◌≤◌, ◌≡◌, List, [], ◌++◌, length, take, drop}
use Rattle.std.proofs.Common.{sym, ap, ◌∙◌, zero-add, le_refl, arith, length-append, take_at}
use Rattle.memory.specs.Wrote.{Wrote}
use Rattle.memory.specs.WroteLaws.{none, then, kept, front_to}
use Rattle.text.specs.Appended.{appended, Leaves}
use Rattle.text.specs.AppendedLaws.{leaves_wrote}
use Rattle.text.specs.Built.{Built}

pub built_none : (l : List ℕ) (size : ℕ) → length l ≡ size → Built size 0 [] l 0
built_none l size h = record { before = l; long = h; wrote = none l 0; within = omega arith }

-- a piece of no more than k bytes that was stored
pub built_wrote : {size most : ℕ} {m n : List ℕ} {a e : ℕ} {xs : List ℕ} (ys : List ℕ) (k : ℕ) → length ys ≤ k → Wrote m a ys n e
    → Built size most xs m a → Built size (most + k) (xs ++ ys) n e
built_wrote {size} {most} {m} {n} {a} {e} {xs} ys k h w b = record {
  before = b.before;
  long = b.long;
  wrote = then b.wrote w;
  within = omega (arith, length-append xs ys, b.within);
}

-- a piece of no more than k bytes that was appended, where there is room for it
pub built_more : {size most : ℕ} {m n : List ℕ} {a e : ℕ} {xs : List ℕ} (ys : List ℕ) (k : ℕ) → length ys ≤ k → most + k ≤ size → Leaves (appended m a ys) n e
    → Built size most xs m a → Built size (most + k) (xs ++ ys) n e
built_more {size} {most} {m} {n} {a} {e} {xs} ys k h room x b =
    built_wrote ys k h (leaves_wrote (omega (arith, b.wrote.place, b.within, b.long, kept b.wrote)) x) b

pub built_word : {size most : ℕ} {m n : List ℕ} {a e : ℕ} {xs : List ℕ} (ys : List ℕ) → most + length ys ≤ size → Leaves (appended m a ys) n e
    → Built size most xs m a → Built size (most + length ys) (xs ++ ys) n e
built_word ys room x b = built_more ys (length ys) (le_refl (length ys)) room x b

-- what was built is no longer than the room
pub built_all : {size most : ℕ} {m : List ℕ} {a : ℕ} {xs : List ℕ} → most ≤ size → Built size most xs m a → Built size size xs m a
built_all h b = record { before = b.before; long = b.long; wrote = b.wrote; within = omega (arith, b.within) }

pub built_within : {size : ℕ} {m : List ℕ} {a : ℕ} {xs : List ℕ} → Built size size xs m a → a ≤ length m
built_within b = omega (arith, b.wrote.place, b.within, b.long, kept b.wrote)

-- the part up to its end is the line
pub built_part : {size : ℕ} {m : List ℕ} {a : ℕ} {xs : List ℕ} → Built size size xs m a → take (a - 0) (drop 0 m) ≡ xs
built_part {size} {m} {a} {xs} b =
    let e : a ≡ length xs = b.wrote.place ∙ zero-add (length xs) in
    let w : a ≤ length b.before = omega (arith, b.within, b.long) in
    let z : a - 0 ≡ a = omega arith in
    rw z (ap (take a) (front_to b.wrote w) ∙ take_at xs (drop a b.before) a (sym e))

-- so is what stands before the page's place
pub built_text : {size : ℕ} {m : List ℕ} {a : ℕ} {xs : List ℕ} → Built size size xs m a → take a m ≡ xs
built_text {size} {m} {a} {xs} b = let z : a - 0 ≡ a = omega arith in rw z at (built_part b)

-- room is left for k bytes more
pub built_room : {size most : ℕ} {m : List ℕ} {a : ℕ} {xs : List ℕ} (k : ℕ) → Built size most xs m a → most + k ≤ size → a + k ≤ length m
built_room k b h = omega (arith, b.wrote.place, b.within, b.long, kept b.wrote)
