-- A part that was taken, carried out on, and given back.
use Rattle.mat_path.proofs.SameNames.{is_prefix-refl}
use Rattle.std.proofs.Common.{◌≡◌, ℕ, Bool, true, false, cond, not, ◌&&◌, ◌||◌, List, [], ◌∷◌, ◌++◌, drop, length, Option, Some, None, if◌then◌else◌, refl, ap, ap₂, ◌∙◌, sym, subst}
use Rattle.std.proofs.Math.Seq.{drop-append_seam}
use Rattle.std.specs.Result.{IfOk, OnOk}
use Rattle.std.specs.declared.result.Result.{Result}
use Rattle.std.specs.declared.result.Result.TheVariants.{Ok, Err}
use Rattle.std.specs.Option.{option_map}
use Rattle.mat_path.specs.Names.{is_prefix, same_names}
use Rattle.mat_path.proofs.PathLemmas.{prefix-append}
use Rattle.mat_tree.specs.Parts.{HasTree, Part, bare, below, declared_by, replaced, without}
use Rattle.mat_tree.specs.declared.flat.Flat.{Flat}
use Rattle.region_port.specs.Calls.{Paths, nowhere, paths_below, paths_of_both, paths_outside}
use Rattle.write_plan.specs.declared.act.Act.{Act}
use Rattle.write_plan.specs.declared.act.Act.TheVariants as act
use Rattle.buckd.specs.Making.{Nodes, rough_after, rough_by, shown_by, with_nodes}

-- ---- answers

pub both_ok : {A E : Type 0} (r : Result A E) (P : Type 0) (Q R : A → Type 0) → ((a : A) → P → Q a → R a) → OnOk r P → IfOk r Q → IfOk r R
both_ok (Ok a) P Q R f p q = f a p q
both_ok (Err e) P Q R f p q = tt

-- ---- content

-- what a disk has once the part came back
pub given_is : (place path : List (List ℕ)) (inner between content given : Part) → place ≡ path → Some between ≡ Some (without path content) →
    Some given ≡ Some (replaced place inner between) → given ≡ replaced path inner (without path content)
given_is place path inner between content given same taken back =
    ap (or_bare) back ∙ ap₂ (λ (p : List (List ℕ)) (o : Option Part). replaced p inner (or_bare o)) same taken
  where
    or_bare : Option Part → Part
    or_bare None = bare
    or_bare (Some part) = part

pub shown_given : (path : List (List ℕ)) (inner content given : Part) (nodes : Nodes) → given ≡ replaced path inner (without path content) → shown_by inner ≡ nodes →
    shown_by given ≡ with_nodes path nodes (shown_by content)
shown_given path inner content given nodes is shows =
    let each : (q : List (List ℕ)) → shown_by (replaced path inner (without path content)) q ≡ with_nodes path (shown_by inner) (shown_by content) q =
    λ q. by q (is_prefix path q) in
    ap shown_by is ∙ (λ i q. each q i) ∙ ap (λ (n : Nodes). with_nodes path n (shown_by content)) shows
  where
    by : (q : List (List ℕ)) (b : Bool) → option_map declared_by (cond b (inner (drop (length path) q)) (cond b None (content q)))
        ≡ cond b (option_map declared_by (inner (drop (length path) q))) (option_map declared_by (content q))
    by q true = refl
    by q false = refl

pub holds_given : (path : List (List ℕ)) (inner content given : Part) (tree : List Flat) → given ≡ replaced path inner (without path content) → HasTree inner tree →
    HasTree (below path given) tree
holds_given path inner content given tree is holds =
    subst (λ (p : Part). HasTree (below path p) tree) (sym is)
    (λ rel.
    ap (λ (b : Bool). option_map declared_by (if b then inner (drop (length path) (path ++ rel)) else without path content (path ++ rel))) (prefix-append path rel)
    ∙ ap (λ (r : List (List ℕ)). option_map declared_by (inner r)) (drop-append_seam path rel)
    ∙ holds rel)

-- ---- rough paths

after_append : (place : List (List ℕ)) (first last : List Act) (paths : Paths) → rough_after place (first ++ last) paths ≡ rough_after place last (rough_after place first paths)
after_append place [] last paths = refl
after_append place (one ∷ first) last paths = after_append place first last (rough_by place one paths)

-- a sync at the end leaves none
pub synced_after : (place : List (List ℕ)) (first : List Act) (paths : Paths) → rough_after place (first ++ act.Sync ∷ []) paths ≡ nowhere
synced_after place first paths = after_append place first (act.Sync ∷ []) paths

-- acts leave none that is elsewhere
pub none_elsewhere : (place : List (List ℕ)) (acts : List Act) (paths : Paths) (q : List (List ℕ)) → is_prefix place q ≡ false → paths q ≡ false →
    rough_after place acts paths q ≡ false
none_elsewhere place [] paths q off none = none
none_elsewhere place (one ∷ acts) paths q off none = none_elsewhere place acts (rough_by place one paths) q off (by one)
  where
    apart : (b : Bool) → same_names q place ≡ b → (b || paths q) ≡ false
    apart true e = let on : is_prefix place q ≡ true = is_prefix-refl place q e in cc
    apart false e = none

    by : (a : Act) → rough_by place a paths q ≡ false
    by act.Wipe = apart (same_names q place) refl
    by (act.Dir rel) = apart (same_names q place) refl
    by (act.Link rel target) = apart (same_names q place) refl
    by (act.File rel digest exec from) = apart (same_names q place) refl
    by act.Sync = refl

-- the rough paths once the part came back, elsewhere and where it stands
pub rough_elsewhere : (path : List (List ℕ)) (acts : List Act) (old between start inner given : Paths) → start ≡ paths_below path old → between ≡ paths_outside path old →
    inner ≡ rough_after path acts start → given ≡ paths_of_both between inner →
    (q : List (List ℕ)) → is_prefix path q ≡ false → given q ≡ old q
rough_elsewhere path acts old between start inner given begins taken ends back q off =
    ap (λ (p : Paths). p q) back
    ∙ ap₂ (λ (p : Paths) (b : Bool). p q || b) taken
    (ap (λ (p : Paths). p q) ends ∙ none_elsewhere path acts start q off (ap (λ (p : Paths). p q) begins ∙ ap (λ (b : Bool). b && old q) off))
    ∙ ap (λ (b : Bool). (not b && old q) || false) off ∙ plain (old q)
  where
    plain : (b : Bool) → (b || false) ≡ b
    plain true = refl
    plain false = refl

pub rough_synced : (path : List (List ℕ)) (old between inner given : Paths) → between ≡ paths_outside path old → inner ≡ nowhere → given ≡ paths_of_both between inner →
    (q : List (List ℕ)) → is_prefix path q ≡ true → given q ≡ false
rough_synced path old between inner given taken ends back q on =
    ap (λ (p : Paths). p q) back ∙ ap₂ (λ (p r : Paths). p q || r q) taken ends ∙ ap (λ (b : Bool). (not b && old q) || false) on
