-- The marks that are left where those at some paths go, one path after the other.
use Rattle.std.proofs.Common.{◌≡◌, ◌+◌, ◌<◌, ◌≤◌, ℕ, suc, Bool, true, false, ◌||◌, not, cond, List, [], ◌∷◌, ◌++◌, take, get_or, length, refl, ◌∙◌, sym, ap, arith}
use Rattle.std.proofs.lemmas.List.{take_all}
use Rattle.std.proofs.Math.Seq.{take-suc}
use Rattle.std.specs.List.{filter}
use Rattle.mat_path.specs.Names.{same_names}
use Rattle.path_trie.proofs.Splices.{filter_every}
use Rattle.kept_book.specs.declared.mark.Mark.{Mark}
use Rattle.kept_book.specs.Marks.{is_listed, is_mark_elsewhere, is_mark_unlisted}

or_three : (a b c : Bool) → (a || (b || c)) ≡ ((a || b) || c)
or_three true b c = refl
or_three false b c = refl

or_none : (a : Bool) → (a || false) ≡ a
or_none true = refl
or_none false = refl

any_more : (paths : List (List (List ℕ))) (p q : List (List ℕ)) → is_listed (paths ++ p ∷ []) q ≡ (is_listed paths q || same_names p q)
any_more [] p q = or_none (same_names p q)
any_more (x ∷ xs) p q = ap (λ b. same_names x q || b) (any_more xs p q) ∙ or_three (same_names x q) (is_listed xs q) (same_names p q)

unlisted_more : (paths : List (List (List ℕ))) (p : List (List ℕ)) (ms : List Mark)
    → filter (is_mark_elsewhere p) (filter (is_mark_unlisted paths) ms) ≡ filter (is_mark_unlisted (paths ++ p ∷ [])) ms
unlisted_more paths p [] = refl
unlisted_more paths p (m ∷ ms) =
    by (is_listed paths m.path) (same_names p m.path) refl (unlisted_more paths p ms)
    ∙ ap (λ b. cond (not b) (m ∷ filter (is_mark_unlisted (paths ++ p ∷ [])) ms) (filter (is_mark_unlisted (paths ++ p ∷ [])) ms)) (sym (any_more paths p m.path))
  where
    by : (a b : Bool) → same_names p m.path ≡ b → filter (is_mark_elsewhere p) (filter (is_mark_unlisted paths) ms) ≡ filter (is_mark_unlisted (paths ++ p ∷ [])) ms
        → filter (is_mark_elsewhere p) (cond (not a) (m ∷ filter (is_mark_unlisted paths) ms) (filter (is_mark_unlisted paths) ms))
        ≡ cond (not (a || b)) (m ∷ filter (is_mark_unlisted (paths ++ p ∷ [])) ms) (filter (is_mark_unlisted (paths ++ p ∷ [])) ms)
    by true b e more = more
    by false true e more =
        ap (λ b. cond (not b) (m ∷ filter (is_mark_elsewhere p) (filter (is_mark_unlisted paths) ms)) (filter (is_mark_elsewhere p) (filter (is_mark_unlisted paths) ms))) e ∙ more
    by false false e more =
        ap (λ b. cond (not b) (m ∷ filter (is_mark_elsewhere p) (filter (is_mark_unlisted paths) ms)) (filter (is_mark_elsewhere p) (filter (is_mark_unlisted paths) ms))) e
        ∙ ap (λ t. m ∷ t) more

pub none_taken : (ms : List Mark) → ms ≡ filter (is_mark_unlisted []) ms
none_taken ms = sym (filter_every (is_mark_unlisted []) (λ m. refl) ms)

pub next_taken : (paths : List (List (List ℕ))) (k : ℕ) (p : List (List ℕ)) (ms now new : List Mark) → k < length paths → p ≡ get_or paths k p
    → now ≡ filter (is_mark_unlisted (take k paths)) ms → new ≡ filter (is_mark_elsewhere p) now → new ≡ filter (is_mark_unlisted (take (k + 1) paths)) ms
next_taken paths k p ms now new within is was e =
    let next : suc k ≡ k + 1 = omega arith in
    e ∙ ap (filter (is_mark_elsewhere p)) was ∙ unlisted_more (take k paths) p ms
    ∙ ap (λ q. filter (is_mark_unlisted (take k paths ++ q ∷ [])) ms) is
    ∙ ap (λ qs. filter (is_mark_unlisted qs) ms) (sym (take-suc paths k p within))
    ∙ ap (λ n. filter (is_mark_unlisted (take n paths)) ms) next

pub all_taken : (paths : List (List (List ℕ))) (k : ℕ) (ms now : List Mark) → length paths ≤ k → now ≡ filter (is_mark_unlisted (take k paths)) ms
    → now ≡ filter (is_mark_unlisted paths) ms
all_taken paths k ms now end was = was ∙ ap (λ qs. filter (is_mark_unlisted qs) ms) (take_all k paths end)
