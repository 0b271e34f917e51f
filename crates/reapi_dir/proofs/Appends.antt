-- What is appended to a message, piece by piece.
use Rattle.std.proofs.Common.{◌≡◌, ◌<◌, ◌≤◌, ◌+◌, ◌/◌, ◌%◌, ◌^◌, ℕ, List, [], ◌∷◌, ◌++◌, length, take, get_or, ap, ◌∙◌, sym, append_assoc}
use Rattle.std.proofs.lemmas.List.{append-nil, take_more}
use Rattle.std.proofs.lemmas.List.Concat.{flat_map-append}
use Rattle.std.specs.List.{flat_map}
use Rattle.mat_tree.specs.Messages.{varint}
use Rattle.mat_tree.proofs.Varints.{varint_small, varint_step}

-- a group that is pushed and the varint of what is left are the varint that was begun
pub group_more : (start out pushed : List ℕ) (number rest : ℕ) → rest < 2 ^ 64 → 128 ≤ rest → pushed ≡ out ++ ((128 + rest % 128) ∷ [])
    → out ++ varint rest ≡ start ++ varint number → pushed ++ varint (rest / 128) ≡ start ++ varint number
group_more start out pushed number rest h k e so =
    ap (λ t. t ++ varint (rest / 128)) e ∙ append_assoc out ((128 + rest % 128) ∷ []) (varint (rest / 128))
    ∙ ap (λ t. out ++ t) (sym (varint_step rest h k)) ∙ so

-- the last group that is pushed completes the varint that was begun
pub group_last : (start out pushed : List ℕ) (number rest : ℕ) → rest < 128 → pushed ≡ out ++ (rest ∷ [])
    → out ++ varint rest ≡ start ++ varint number → pushed ≡ start ++ varint number
group_last start out pushed number rest h e so =
    e ∙ ap (λ t. out ++ t) (sym (varint_small rest h)) ∙ so

-- the fields of the children so far and that of the next one are those of one child more
pub fields_more : {X : Type 0} (f : X → List ℕ) (xs : List X) (i : ℕ) (x : X) (start out pushed : List ℕ) → i < length xs → x ≡ get_or xs i x
    → out ≡ start ++ flat_map f (take i xs) → pushed ≡ out ++ f x → pushed ≡ start ++ flat_map f (take (i + 1) xs)
fields_more f xs i x start out pushed h is so e =
    e ∙ ap (λ t. t ++ f x) so ∙ append_assoc start (flat_map f (take i xs)) (f x)
    ∙ ap (λ t. start ++ t)
    (ap (λ t. flat_map f (take i xs) ++ t) (sym (append-nil (f x))) ∙ sym (flat_map-append f (take i xs) (x ∷ []))
    ∙ ap (λ y. flat_map f (take i xs ++ (y ∷ []))) is ∙ ap (flat_map f) (sym (take_more xs i x h)))
