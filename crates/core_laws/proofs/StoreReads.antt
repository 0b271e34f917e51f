-- What the rows of a state store are read as: the kept rows that it has, and no others.
use Rattle.std.proofs.Common.{◌≡◌, ◌≢◌, ◌<◌, ◌^◌, ℕ, Bool, true, false, ◌⊎◌, inl, inr, cond, List, [], ◌∷◌, Some, None, IfSome, refl, sym, ap, ap₂, subst, ◌∙◌, Contains}
use Rattle.std.proofs.lemmas.Bool.{and_parts}
use Rattle.std.specs.List.{list_all}
use Rattle.mat_path.proofs.Elements.{contains_cases, contains_first, contains_more}
use Rattle.mat_path.proofs.ReadLemmas.{read_back}
use Rattle.mat_tree.specs.declared.flat.Flat.{Flat}
use Rattle.mat_tree.specs.Trees.{ascends_by, is_after_by}
use Rattle.mat_model.specs.Kept.{KeptRow}
use Rattle.mat_model.specs.Rows.{comes_before}
use Rattle.model_laws.specs.KeptRules.{KeptAscend, path_of_kept}
use Rattle.model_laws.proofs.Apart.{before-trans}
use Rattle.model_laws.proofs.Elements.{contains_all}
use Rattle.keep_port.specs.declared.row.RawRow.{RawRow}
use Rattle.row_bytes.specs.Rows.{IsRow}
use Rattle.row_bytes.specs.declared.row.KeptTree.{KeptTree}
use Rattle.row_bytes.proofs.RowBack.{one_row}
use Rattle.core_laws.specs.Stored.{IsReadAmong, IsReadAs, IsReadFrom, IsReadable, IsStore, identity_of, raw_row}
use Rattle.core_laws.proofs.StoreLemmas.{before_differs, none_there, spelled_once}

-- what the bytes of a kept row are a row of
abbrev tree_of : ℕ → KeptRow → KeptTree
tree_of identity one = record { tree = one.tree; identity = identity_of identity one }

bytes_are : (identity : ℕ) (one : KeptRow) → identity < 2 ^ 64 → IsReadable one → IsRow (raw_row identity one).body (tree_of identity one)
bytes_are identity one small tree = record { text = refl; tree = tree.whole; nodes = tree.nodes; identity = by one.new }
  where
    by : (b : Bool) → IfSome (cond b (Some identity) None) (λ (i : ℕ). i < 2 ^ 64)
    by true = small
    by false = tt

read_one : (identity : ℕ) (kept : List KeptRow) (rows : List RawRow) (one : KeptRow) → identity < 2 ^ 64 → IsStore identity kept rows →
    Contains kept one → IsReadAs identity (raw_row identity one) one
read_one identity kept rows one small store among =
    record { path = read_back one.path (store.readable one among).placed; body = bytes_are identity one small (store.readable one among); last = refl }

-- each row is read as a kept one, and each of these is read from a row
pub stored_read : (identity : ℕ) (kept : List KeptRow) (rows : List RawRow) (raw : RawRow) → identity < 2 ^ 64 →
    IsStore identity kept rows → Contains rows raw → IsReadAmong identity kept raw
stored_read identity kept rows raw small store among =
    let of = store.others raw among in
    record {
      one = of.one;
      among = of.among;
      read = subst (λ (r : RawRow). IsReadAs identity r of.one) (sym of.same) (read_one identity kept rows of.one small store of.among);
    }

pub read_stored : (identity : ℕ) (kept : List KeptRow) (rows : List RawRow) (one : KeptRow) → identity < 2 ^ 64 →
    IsStore identity kept rows → Contains kept one → IsReadFrom identity rows one
read_stored identity kept rows one small store among =
    record { raw = raw_row identity one; among = store.each one among; read = read_one identity kept rows one small store among }

-- two kept rows at paths that the state store has as one row are one
same_row : (identity : ℕ) (one other : KeptRow) → identity < 2 ^ 64 → IsReadable one → IsReadable other → one.path ≡ other.path →
    raw_row identity one ≡ raw_row identity other → one ≡ other
same_row identity one other small tree its path same =
    ap₂ (λ (p : List (List ℕ)) (t : List Flat). kept_of p t one.last one.new) path (ap (λ (r : KeptTree). r.tree) both)
    ∙ ap₂ (λ (l : ℕ) (n : Bool). kept_of other.path other.tree l n) (ap (λ (r : RawRow). r.last) same)
    (versions one.new other.new (ap (λ (r : KeptTree). r.identity) both))
  where
    kept_of : List (List ℕ) → List Flat → ℕ → Bool → KeptRow
    kept_of path tree last new = record { path = path; tree = tree; last = last; new = new }

    both : tree_of identity one ≡ tree_of identity other
    both =
        one_row (raw_row identity one).body (tree_of identity one) (tree_of identity other) (bytes_are identity one small tree)
        (subst (λ (r : RawRow). IsRow r.body (tree_of identity other)) (sym same) (bytes_are identity other small its))

    versions : (b c : Bool) → cond b (Some identity) None ≡ cond c (Some identity) None → b ≡ c
    versions true true is = refl
    versions true false is = absurd cc
    versions false true is = absurd cc
    versions false false is = refl

-- ---- kept rows in order

not_before_itself : (a b : KeptRow) → comes_before a.path b.path ≡ true → comes_before b.path a.path ≡ true → ⊥
not_before_itself a b first second = before_differs a a (before-trans a.path b.path a.path first second) refl

-- kept rows in order are the same where the same ones are among them
same_kept : (kept others : List KeptRow) → KeptAscend kept → KeptAscend others → ((one : KeptRow) → Contains kept one → Contains others one) →
    ((one : KeptRow) → Contains others one → Contains kept one) → kept ≡ others
same_kept [] [] up over to from = refl
same_kept [] (other ∷ others) up over to from = absurd (none_there (from other (contains_first other others)))
same_kept (row ∷ kept) [] up over to from = absurd (none_there (to row (contains_first row kept)))
same_kept (row ∷ kept) (other ∷ others) up over to from =
    let ups = and_parts (list_all (is_after_by path_of_kept row.path) kept) (ascends_by path_of_kept kept) up in
    let overs = and_parts (list_all (is_after_by path_of_kept other.path) others) (ascends_by path_of_kept others) over in
    let head : row ≡ other = first ups.0 overs.0 (contains_cases other others row (to row (contains_first row kept))) in
    ap₂ (λ (k : KeptRow) (ks : List KeptRow). k ∷ ks) head
    (same_kept kept others ups.1 overs.1
    (λ one among. rest other others one (to one (contains_more row kept one among))
    (λ same. before_differs row one (contains_all (is_after_by path_of_kept row.path) kept one ups.0 among) (ap (λ (k : KeptRow). k.path) (head ∙ same))))
    (λ one among. rest row kept one (from one (contains_more other others one among))
    (λ same. before_differs other one (contains_all (is_after_by path_of_kept other.path) others one overs.0 among) (ap (λ (k : KeptRow). k.path) (sym head ∙ same)))))
  where
    first : list_all (is_after_by path_of_kept row.path) kept ≡ true → list_all (is_after_by path_of_kept other.path) others ≡ true →
        (other ≡ row) ⊎ Contains others row → row ≡ other
    first above over (inl same) = sym same
    first above over (inr behind) = elim (contains_cases row kept other (from other (contains_first other others))) [
      | inl same ↦ same
      | inr back ↦ absurd (not_before_itself row other (contains_all (is_after_by path_of_kept row.path) kept other above back)
          (contains_all (is_after_by path_of_kept other.path) others row over behind))
    ]

    rest : (k : KeptRow) (ks : List KeptRow) (one : KeptRow) → Contains (k ∷ ks) one → k ≢ one → Contains ks one
    rest k ks one among differs = elim (contains_cases k ks one among) [ inl same ↦ absurd (differs same) | inr more ↦ more ]

-- a state store has the rows of one list of kept rows in order
pub kept_alike : (identity : ℕ) (kept others : List KeptRow) (rows : List RawRow) → identity < 2 ^ 64 → KeptAscend kept → KeptAscend others →
    IsStore identity kept rows → IsStore identity others rows → kept ≡ others
kept_alike identity kept others rows small up over store other =
    same_kept kept others up over
    (λ one among.
    let of = other.others (raw_row identity one) (store.each one among) in
    subst (Contains others) (sym (same_row identity one of.one small (store.readable one among) (other.readable of.one of.among)
    (spelled_once one.path of.one.path (store.readable one among).placed (other.readable of.one of.among).placed (ap (λ (r : RawRow). r.path) of.same)) of.same)) of.among)
    (λ one among.
    let of = store.others (raw_row identity one) (other.each one among) in
    subst (Contains kept) (sym (same_row identity one of.one small (other.readable one among) (store.readable of.one of.among)
    (spelled_once one.path of.one.path (other.readable one among).placed (store.readable of.one of.among).placed (ap (λ (r : RawRow). r.path) of.same)) of.same)) of.among)
