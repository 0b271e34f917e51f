-- The plan of a make: its acts are as the definition has them, they may be carried out, and they put the right bytes.
use Rattle.mat_path.proofs.SameNames.{same_name-eq, same_name-refl}
use Rattle.std.specs.Cmp.{first_so, second_so}
use Rattle.std.proofs.lemmas.Bool.{and_from}
use Rattle.std.proofs.Common.{◌≡◌, ℕ, ◌==◌, Bool, true, false, cond, not, ◌&&◌, List, [], ◌∷◌, ◌++◌, map, Option, Some, None, if◌then◌else◌, refl, ap, ap₂, ◌∙◌, sym, subst, arith}
use Rattle.std.proofs.lemmas.Bool.Decides.{nat_tests}
use Rattle.std.specs.List.{list_all}
use Rattle.std.specs.Option.{is_some, option_map}
use Rattle.mat_digest.specs.Digests.{digest_of}
use Rattle.mat_digest.specs.declared.digest.Digest.{Digest}
use Rattle.mat_path.specs.Names.{same_name, same_names}
use Rattle.mat_model.specs.declared.entries.Outcome.{Outcome}
use Rattle.mat_model.specs.declared.entries.Outcome.TheVariants as outcome
use Rattle.mat_tree.specs.Parts.{HasTree, Node, Part, declared_by, file, folder, link}
use Rattle.mat_tree.specs.Trees.{is_placed, same_digest}
use Rattle.mat_tree.specs.declared.flat.Flat.{Flat}
use Rattle.mat_tree.specs.declared.flat.What.{What}
use Rattle.mat_tree.specs.declared.flat.What.TheVariants as what
use Rattle.mat_tree.proofs.Joins.{all_join}
use Rattle.fetch_port.specs.Fetches.{Blobs}
use Rattle.write_plan.specs.Carried.{AreRight, Bytes, IsRightFor, carry, carry_one}
use Rattle.write_plan.specs.Plans.{act_of, act_what, is_empty, plan_of, supply_of}
use Rattle.write_plan.specs.declared.act.Act.{Act}
use Rattle.write_plan.specs.declared.act.Act.TheVariants as act
use Rattle.write_plan.specs.declared.act.Supply.{Supply}
use Rattle.write_plan.specs.declared.act.Supply.TheVariants as supply
use Rattle.write_plan.specs.declared.method.Method.{Method}
use Rattle.write_plan.specs.declared.method.Method.TheVariants as method
use Rattle.buckd.specs.Making.{IsAtHand, act_failure, acts_done, bytes_or_none, fetch_failure, file_failure, fits, given, held_bytes, is_fetch, is_supplied, is_supply, is_write, left_by, left_by_one, make_acts, no_nodes, or_made, outcome_of, shown_by, supplied}

-- ---- digests

pub same_digest-refl : (a : Digest) → same_digest a a ≡ true
same_digest-refl a = and_from (same_name a.hash a.hash) (a.size == a.size) (same_name-refl a.hash) (same_size a.size)
  where
    same_size : (n : ℕ) → (n == n) ≡ true
    same_size n = grind (arith, nat_tests)

pub same_digest_true : (a b : Digest) → same_digest a b ≡ true → a ≡ b
same_digest_true a b e =
    ap₂ (λ (h : List ℕ) (n : ℕ). let d : Digest = record { hash = h; size = n } in d)
    (same_name-eq a.hash b.hash (first_so (same_name a.hash b.hash) (a.size == b.size) e))
    (same_size a.size b.size (second_so (same_name a.hash b.hash) (a.size == b.size) e))
  where
    same_size : (m n : ℕ) → (m == n) ≡ true → m ≡ n
    same_size m n f = grind (arith, nat_tests)

-- ---- the acts

-- which bytes a row holds doesn't matter
pub plan_is : (way : Method) (tree : List Flat) → IsAtHand way tree → plan_of tree way false ≡ make_acts (is_write way) tree
plan_is (method.Write bytes) tree hand = ap (λ (acts : List Act). act.Wipe ∷ acts ++ act.Sync ∷ []) (all tree)
  where
    each : (rel : List (List ℕ)) (w : What) → act_what (method.Write bytes) false rel w ≡ act_what (method.Write []) false rel w
    each rel (what.File digest exec) = refl
    each rel what.Dir = refl
    each rel (what.Link target) = refl

    all : (nodes : List Flat) → map (act_of (method.Write bytes) false) nodes ≡ map (act_of (method.Write []) false) nodes
    all [] = refl
    all (node ∷ nodes) = ap₂ (λ (one : Act) (acts : List Act). one ∷ acts) (each node.rel node.what) (all nodes)
plan_is method.Fetch tree hand = refl
plan_is (method.Copy source rest stamp origin) tree hand = absurd hand

-- each act stands at a path
pub plan_fits : (path : List (List ℕ)) (way : Method) (tree : List Flat) → list_all (is_placed path) tree ≡ true → list_all (fits path) (plan_of tree way false) ≡ true
plan_fits path way tree all = all_join (fits path) (map (act_of way false) tree) (act.Sync ∷ []) (each tree all) refl
  where
    one : (node : Flat) (w : What) → is_placed path node ≡ true → fits path (act_what way false node.rel w) ≡ true
    one node (what.File digest exec) e = e
    one node what.Dir e = e
    one node (what.Link target) e = e

    each : (nodes : List Flat) → list_all (is_placed path) nodes ≡ true → list_all (fits path) (map (act_of way false) nodes) ≡ true
    each [] e = refl
    each (node ∷ nodes) e =
        and_from (fits path (act_of way false node)) (list_all (fits path) (map (act_of way false) nodes))
        (one node node.what (first_so (is_placed path node) (list_all (is_placed path) nodes) e))
        (each nodes (second_so (is_placed path node) (list_all (is_placed path) nodes) e))

-- each file's bytes come from where the row has them
pub plan_supplied : (way : Method) (tree : List Flat) → IsAtHand way tree → list_all (is_supplied way) (plan_of tree way false) ≡ true
plan_supplied (method.Write bytes) tree hand =
    subst (λ (t : List Flat). list_all (is_supplied (method.Write bytes)) (plan_of t (method.Write bytes) false) ≡ true) (sym hand)
    (and_from (is_supply (method.Write bytes) (digest_of bytes) (supply_of (method.Write bytes) false [] (digest_of bytes))) true
    (by (digest_of bytes) refl (is_empty (digest_of bytes)) refl) refl)
  where
    by : (digest : Digest) → digest_of bytes ≡ digest → (b : Bool) → is_empty digest ≡ b → is_supply (method.Write bytes) digest (cond b supply.Empty supply.Held) ≡ true
    by digest same true e = e
    by digest same false e =
        and_from (not (is_empty digest)) (same_digest (digest_of bytes) digest) (ap not e)
        (ap (λ (d : Digest). same_digest d digest) same ∙ same_digest-refl digest)
plan_supplied method.Fetch tree hand = all_join (is_supplied method.Fetch) (map (act_of method.Fetch false) tree) (act.Sync ∷ []) (each tree) refl
  where
    by : (digest : Digest) (b : Bool) → is_empty digest ≡ b → is_supply method.Fetch digest (cond b supply.Empty supply.Store) ≡ true
    by digest true e = e
    by digest false e = ap not e

    one : (rel : List (List ℕ)) (w : What) → is_supplied method.Fetch (act_what method.Fetch false rel w) ≡ true
    one rel (what.File digest exec) = by digest (is_empty digest) refl
    one rel what.Dir = refl
    one rel (what.Link target) = refl

    each : (nodes : List Flat) → list_all (is_supplied method.Fetch) (map (act_of method.Fetch false) nodes) ≡ true
    each [] = refl
    each (node ∷ nodes) =
        and_from (is_supplied method.Fetch (act_of method.Fetch false node)) (list_all (is_supplied method.Fetch) (map (act_of method.Fetch false) nodes))
        (one node.rel node.what) (each nodes)
plan_supplied (method.Copy source rest stamp origin) tree hand = absurd hand

-- ---- bytes

-- a file that didn't fail is put with bytes of its digest
right_for : (blobs : Blobs) (way : Method) (digest : Digest) (from : Supply) → is_supply way digest from ≡ true → file_failure blobs digest from ≡ None →
    digest_of (supplied blobs way digest) ≡ digest
right_for blobs way digest supply.Empty has fine =
    ap (λ (b : Bool). digest_of (if b then [] else if is_write way then held_bytes way else bytes_or_none (given blobs digest))) has
    ∙ sym (same_digest_true digest (digest_of []) has)
right_for blobs way digest supply.Held has fine =
    let two : (is_write way && not (is_empty digest)) ≡ true = first_so (is_write way && not (is_empty digest)) (same_digest (digest_of (held_bytes way)) digest) has in
    ap (λ (b : Bool). digest_of (if b then [] else if is_write way then held_bytes way else bytes_or_none (given blobs digest)))
    (not_true (is_empty digest) (second_so (is_write way) (not (is_empty digest)) two))
    ∙ ap (λ (b : Bool). digest_of (if b then held_bytes way else bytes_or_none (given blobs digest))) (first_so (is_write way) (not (is_empty digest)) two)
    ∙ same_digest_true (digest_of (held_bytes way)) digest (second_so (is_write way && not (is_empty digest)) (same_digest (digest_of (held_bytes way)) digest) has)
  where
    not_true : (b : Bool) → not b ≡ true → b ≡ false
    not_true true e = cc
    not_true false e = refl
right_for blobs way digest supply.Store has fine =
    ap (λ (b : Bool). digest_of (if b then [] else if is_write way then held_bytes way else bytes_or_none (given blobs digest)))
    (not_true (is_empty digest) (second_so (is_fetch way) (not (is_empty digest)) has))
    ∙ ap (λ (b : Bool). digest_of (if b then held_bytes way else bytes_or_none (given blobs digest))) (not_written way (first_so (is_fetch way) (not (is_empty digest)) has))
    ∙ by (given blobs digest) fine
  where
    not_true : (b : Bool) → not b ≡ true → b ≡ false
    not_true true e = cc
    not_true false e = refl

    not_written : (w : Method) → is_fetch w ≡ true → is_write w ≡ false
    not_written (method.Write bytes) e = cc
    not_written method.Fetch e = refl
    not_written (method.Copy source rest stamp origin) e = refl

    found : (bytes : List ℕ) (b : Bool) → same_digest (digest_of bytes) digest ≡ b →
        (if b then None else Some (outcome.Corrupt digest (digest_of bytes))) ≡ None → digest_of bytes ≡ digest
    found bytes true same e = same_digest_true (digest_of bytes) digest same
    found bytes false same e = cc

    by : (o : Option (List ℕ)) → fetch_failure digest o ≡ None → digest_of (bytes_or_none o) ≡ digest
    by None e = cc
    by (Some bytes) e = found bytes (same_digest (digest_of bytes) digest) refl e
right_for blobs way digest (supply.Loan rel) has fine = cc

-- ---- what is shown

-- what an act that didn't fail leaves
shown_one : (blobs : Blobs) (way : Method) (one : Act) (part : Part) → is_supplied way one ≡ true → act_failure blobs one ≡ None →
    shown_by (carry_one (supplied blobs way) one part) ≡ left_by_one one (shown_by part)
shown_one blobs way one part has fine =
    let each : (q : List (List ℕ)) → shown_by (carry_one (supplied blobs way) one part) q ≡ left_by_one one (shown_by part) q = λ q. at one has fine q in λ i q. each q i
  where
    put : (b : Bool) (node : Node) (w : What) (o : Option Node) → declared_by node ≡ w → option_map declared_by (cond b (Some node) o) ≡ cond b (Some w) (option_map declared_by o)
    put true node w o e = ap (λ (v : What). Some v) e
    put false node w o e = refl

    at : (a : Act) → is_supplied way a ≡ true → act_failure blobs a ≡ None → (q : List (List ℕ)) →
        option_map declared_by (carry_one (supplied blobs way) a part q) ≡ left_by_one a (shown_by part) q
    at act.Wipe h f q = refl
    at (act.Dir rel) h f q = put (same_names q rel) folder what.Dir (part q) refl
    at (act.Link rel target) h f q = put (same_names q rel) (link target) (what.Link target) (part q) refl
    at (act.File rel digest exec from) h f q =
        put (same_names q rel) (file (supplied blobs way digest) exec) (what.File digest exec) (part q)
        (ap (λ (d : Digest). what.File d exec) (right_for blobs way digest from h f))
    at act.Sync h f q = refl

-- what acts up to the first that fails leave
pub shown_all : (blobs : Blobs) (way : Method) (acts : List Act) (part : Part) → list_all (is_supplied way) acts ≡ true →
    shown_by (carry (supplied blobs way) (acts_done blobs acts) part) ≡ left_by (acts_done blobs acts) (shown_by part)
shown_all blobs way [] part all = refl
shown_all blobs way (one ∷ acts) part all =
    by (act_failure blobs one) refl
    (shown_all blobs way acts (carry_one (supplied blobs way) one part) (second_so (is_supplied way one) (list_all (is_supplied way) acts) all))
  where
    by : (o : Option Outcome) → act_failure blobs one ≡ o →
        shown_by (carry (supplied blobs way) (acts_done blobs acts) (carry_one (supplied blobs way) one part))
        ≡ left_by (acts_done blobs acts) (shown_by (carry_one (supplied blobs way) one part)) →
        shown_by (carry (supplied blobs way) (if is_some o then [] else one ∷ acts_done blobs acts) part)
        ≡ left_by (if is_some o then [] else one ∷ acts_done blobs acts) (shown_by part)
    by None e rest =
        rest ∙ ap (left_by (acts_done blobs acts)) (shown_one blobs way one part (first_so (is_supplied way one) (list_all (is_supplied way) acts) all) e)
    by (Some failure) e rest = refl

-- ---- what is made

-- no failure is that all was made
never_made : (blobs : Blobs) (one : Act) (failure : Outcome) → act_failure blobs one ≡ Some failure → failure ≡ outcome.Made → ⊥
never_made blobs act.Wipe failure fails is = cc
never_made blobs (act.Dir rel) failure fails is = cc
never_made blobs (act.Link rel target) failure fails is = cc
never_made blobs (act.File rel digest exec supply.Empty) failure fails is = cc
never_made blobs (act.File rel digest exec supply.Held) failure fails is = cc
never_made blobs (act.File rel digest exec supply.Store) failure fails is = by (given blobs digest) fails
  where
    found : (bytes : List ℕ) (b : Bool) → (if b then None else Some (outcome.Corrupt digest (digest_of bytes))) ≡ Some failure → ⊥
    found bytes true e = cc
    found bytes false e = cc

    by : (o : Option (List ℕ)) → fetch_failure digest o ≡ Some failure → ⊥
    by None e = cc
    by (Some bytes) e = found bytes (same_digest (digest_of bytes) digest) e
never_made blobs (act.File rel digest exec (supply.Loan at)) failure fails is = cc
never_made blobs act.Sync failure fails is = cc

-- where all was made, the first act didn't fail, and all behind it was made
abbrev pub IsFine : Blobs → Act → List Act → Type 0
IsFine blobs one acts = (act_failure blobs one ≡ None) × (outcome_of blobs acts ≡ outcome.Made)

made_first : (blobs : Blobs) (one : Act) (acts : List Act) → outcome_of blobs (one ∷ acts) ≡ outcome.Made → IsFine blobs one acts
made_first blobs one acts made = by (act_failure blobs one) refl made
  where
    by : (o : Option Outcome) → act_failure blobs one ≡ o → or_made o (outcome_of blobs acts) ≡ outcome.Made → IsFine blobs one acts
    by None e is = (e, is)
    by (Some failure) e is = absurd (never_made blobs one failure e is)

-- where all was made, all acts were done
pub made_done : (blobs : Blobs) (acts : List Act) → outcome_of blobs acts ≡ outcome.Made → acts_done blobs acts ≡ acts
made_done blobs [] made = refl
made_done blobs (one ∷ acts) made =
    ap (λ (o : Option Outcome). if is_some o then [] else one ∷ acts_done blobs acts) (made_first blobs one acts made).0
    ∙ ap (λ (l : List Act). one ∷ l) (made_done blobs acts (made_first blobs one acts made).1)

-- where all was made, each file's bytes are right
pub made_right : (blobs : Blobs) (way : Method) (nodes : List Flat) (last : List Act) → list_all (is_supplied way) (map (act_of way false) nodes ++ last) ≡ true →
    outcome_of blobs (map (act_of way false) nodes ++ last) ≡ outcome.Made → AreRight (supplied blobs way) nodes
made_right blobs way [] last all made = tt
made_right blobs way (node ∷ nodes) last all made =
    let first : IsFine blobs (act_of way false node) (map (act_of way false) nodes ++ last) =
    made_first blobs (act_of way false node) (map (act_of way false) nodes ++ last) made in (
      one node.what (first_so (is_supplied way (act_of way false node)) (list_all (is_supplied way) (map (act_of way false) nodes ++ last)) all) first.0,
      made_right blobs way nodes last
          (second_so (is_supplied way (act_of way false node)) (list_all (is_supplied way) (map (act_of way false) nodes ++ last)) all) first.1,
    )
  where
    one : (w : What) → is_supplied way (act_what way false node.rel w) ≡ true → act_failure blobs (act_what way false node.rel w) ≡ None → IsRightFor (supplied blobs way) w
    one (what.File digest exec) h f = right_for blobs way digest (supply_of way false node.rel digest) h f
    one what.Dir h f = tt
    one (what.Link target) h f = tt

-- ---- the whole make

-- what the part shows, whatever it had before
pub shown_made : (blobs : Blobs) (way : Method) (tree : List Flat) (acts : List Act) (start inner : Part) → IsAtHand way tree → acts ≡ plan_of tree way false →
    inner ≡ carry (supplied blobs way) (acts_done blobs acts) start → shown_by inner ≡ left_by (acts_done blobs (make_acts (is_write way) tree)) no_nodes
shown_made blobs way tree acts start inner hand is carried =
    ap shown_by carried
    ∙ ap (λ (l : List Act). shown_by (carry (supplied blobs way) (acts_done blobs l) start)) is
    ∙ shown_all blobs way (plan_of tree way false) start (plan_supplied way tree hand)
    ∙ ap (λ (l : List Act). left_by (acts_done blobs l) (shown_by start)) (plan_is way tree hand)

-- a part where all was made has the tree
pub holds_made : (blobs : Blobs) (way : Method) (tree : List Flat) (acts items : List Act) (start inner : Part) (ended : Outcome) → IsAtHand way tree →
    acts ≡ items → items ≡ plan_of tree way false → ((bytes : Bytes) (part : Part) → AreRight bytes tree → HasTree (carry bytes items part) tree) →
    inner ≡ carry (supplied blobs way) (acts_done blobs acts) start → ended ≡ outcome_of blobs acts → ended ≡ outcome.Made → HasTree inner tree
holds_made blobs way tree acts items start inner ended hand same is holds carried ends made =
    subst (λ (p : Part). HasTree p tree) (sym (carried ∙ ap (λ (l : List Act). carry (supplied blobs way) l start) (made_done blobs acts all ∙ same)))
    (holds (supplied blobs way) start
    (made_right blobs way tree (act.Sync ∷ []) (plan_supplied way tree hand) (ap (outcome_of blobs) (sym (same ∙ is)) ∙ all)))
  where
    all : outcome_of blobs acts ≡ outcome.Made
    all = sym ends ∙ made

-- where all was made, all acts of the plan were done
pub plan_done : (blobs : Blobs) (way : Method) (tree : List Flat) (acts : List Act) (ended : Outcome) → acts ≡ plan_of tree way false →
    ended ≡ outcome_of blobs acts → ended ≡ outcome.Made → acts_done blobs acts ≡ (act.Wipe ∷ map (act_of way false) tree) ++ act.Sync ∷ []
plan_done blobs way tree acts ended is ends made = made_done blobs acts (sym ends ∙ made) ∙ is
