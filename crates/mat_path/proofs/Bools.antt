-- Tests that are joined: what the library has no lemma for.
use Rattle.std.proofs.Common.{◌≡◌, Bool, true, false, ◌&&◌, ◌||◌, refl, sym, ◌∙◌}

-- a test fails that implies one which fails
pub false_by : (a b : Bool) → (a ≡ true → b ≡ true) → b ≡ false → a ≡ false
false_by true b implies h = let k : b ≡ true = implies refl in cc
false_by false b implies h = refl

-- the second of two tests fails where they don't both pass and the first one does
pub and_false_right : (a b : Bool) → (a && b) ≡ false → a ≡ true → b ≡ false
and_false_right true b h e = h
and_false_right false b h e = cc

-- the first of two tests passes where one does and the second one fails
pub or_first : (a b : Bool) → b ≡ false → (a || b) ≡ true → a ≡ true
or_first true b e f = refl
or_first false b e f = let g : false ≡ true = sym e ∙ f in cc

-- the second of two tests passes where one does and the first one fails
pub or_second : (a b : Bool) → a ≡ false → (a || b) ≡ true → b ≡ true
or_second true b e f = cc
or_second false b e f = f

-- the second of two tests may be one that it implies
pub or_weaker : (a b c : Bool) → (b ≡ true → c ≡ true) → (a || b) ≡ true → (a || c) ≡ true
or_weaker true b c f e = refl
or_weaker false b c f e = f e

-- a test that both of two ask for is asked for once
pub and_either : (p a b : Bool) → ((p && a) || (p && b)) ≡ (p && (a || b))
and_either true a b = refl
and_either false a b = refl
