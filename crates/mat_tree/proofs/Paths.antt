-- The order of names and rels, and their equality.
use Rattle.mat_path.proofs.PathLemmas.{name_cmp-refl}
use Rattle.mat_path.proofs.SameNames.{same_name-sym}
use Rattle.std.proofs.Math.Bool.{and_assoc}
use Rattle.std.proofs.Common.{◌≡◌, ℕ, true, false, ◌&&◌, List, [], ◌∷◌, length, drop, refl, ◌∙◌, sym, ap}
use Rattle.std.specs.Cmp.Lexicographic.{texts_ties}
use Rattle.std.specs.declared.cmp.Ordering.{Ordering}
use Rattle.std.specs.declared.cmp.Ordering.TheVariants.{Less, Equal, Greater}
use Rattle.std.specs.Ordering.{is_lt, is_eq, ordering_then}
use Rattle.mat_path.specs.Names.{same_name, same_names, is_prefix, name_cmp, path_cmp}

-- a name before another is another
lt_not_eq : (o : Ordering) → is_lt (ordering_then o Equal) ≡ true → is_eq o ≡ false
lt_not_eq Less e = refl
lt_not_eq Equal e = cc
lt_not_eq Greater e = refl

-- a name before another one is not the same
pub lesser_name_differs : (a b : List ℕ) → is_lt (path_cmp (a ∷ []) (b ∷ [])) ≡ true → same_name a b ≡ false
lesser_name_differs a b e = texts_ties a b ∙ lt_not_eq (name_cmp a b) e

-- behind one name two rels are as without it
pub path_cmp_in : (a : List ℕ) (p q : List (List ℕ)) → path_cmp (a ∷ p) (a ∷ q) ≡ path_cmp p q
path_cmp_in a p q = ap (λ o. ordering_then o (path_cmp p q)) (name_cmp-refl a)

-- two rels are the same where one is a prefix of the other with nothing behind it
pub same_as_prefix : (rest rel : List (List ℕ)) → same_names rel rest ≡ (is_prefix rest rel && same_names (drop (length rest) rel) [])
same_as_prefix [] rel = refl
same_as_prefix (a ∷ rest) [] = refl
same_as_prefix (a ∷ rest) (b ∷ rel) =
    ap (λ t. t && same_names rel rest) (same_name-sym b a) ∙ ap (λ t. same_name a b && t) (same_as_prefix rest rel)
    ∙ sym (and_assoc (same_name a b) (is_prefix rest rel) (same_names (drop (length rest) rel) []))
