-- What pieces that are read lead to.
use Rattle.std.proofs.Common.{◌≡◌, ◌≤◌, ◌<◌, ◌+◌, ◌-◌, ◌==◌, ◌&&◌, ◌||◌, nat_le, ℕ, Bool, true, false, not, if◌then◌else◌, List, [], ◌∷◌, ◌++◌, length, Option, Some, None, refl, sym, ap, ◌∙◌, subst, arith}
use Rattle.std.proofs.lemmas.Bool.{eqb-true}
use Rattle.std.proofs.lemmas.Bool.Decides.{nat_tests}
use Rattle.std.proofs.lemmas.List.{length-append}
use Rattle.std.specs.Cmp.{first_so, second_so}
use Rattle.std.specs.List.{list_any}
use Rattle.std.specs.declared.vec.Vec.{Vec}
use Rattle.std.specs.declared.alloc.Global.{Global}
use Rattle.mat_digest.specs.Digests.{digest_of}
use Rattle.mat_digest.specs.declared.digest.Digest.{Digest}
use Rattle.mat_model.specs.declared.entries.Outcome.{Outcome}
use Rattle.mat_model.specs.declared.entries.Outcome.TheVariants as outcome
use Rattle.mat_tree.specs.Parts.{Part}
use Rattle.mat_tree.specs.Trees.{greatest_file, is_small, same_digest}
use Rattle.mat_tree.specs.declared.flat.Flat.{Flat}
use Rattle.write_plan.specs.declared.method.Method.{Method}
use Rattle.write_plan.specs.declared.method.Method.TheVariants as method
use Rattle.write_plan.specs.declared.method.Origin.TheVariants as origin
use Rattle.job_run.specs.declared.states.Source.TheVariants as source
use Rattle.job_run.specs.Begun.{BeginsFrom}
use Rattle.job_run.proofs.Fillings.{filling_from, own_serves}
use Rattle.job_run.specs.Orders.{acts_cost, file_cost, is_right, own_supply, supply_cost}
use Rattle.job_run.specs.Pieces.{asked_for, is_last, most_bytes}
use Rattle.job_run.specs.Readings.{HasGiven, Takes, completes, goes_on, judged}
use Rattle.job_run.specs.Stages.{IsMaking, filing_node, filling_cost, making_cost}
use Rattle.job_run.specs.States.{Continues, IsMakeOf, IsStopped, Leaves, MakeEnds, has_file_of, is_node_of}
use Rattle.job_run.specs.Failures.{is_fault}
use Rattle.job_run.specs.StoreCalls.{IsStoreFailure}
use Rattle.job_run.specs.declared.states.State.{State}
use Rattle.job_run.specs.declared.states.Doing.{Doing}
use Rattle.job_run.specs.declared.states.Filling.{Filling}
use Rattle.job_run.specs.declared.states.Making.{Making}
use Rattle.job_run.specs.declared.states.State.TheVariants as state
use Rattle.region_port.specs.declared.port.Region.{Ghosts}
use Rattle.region_port.specs.declared.states.Part.{Part as StatePart}
use Rattle.fetch_port.specs.Fetches.{Blobs, GivesPiece, held_at}
use Rattle.job_run.specs.declared.reading.Reading.{Reading}
use Rattle.job_run.specs.declared.reading.Taken.TheVariants as taken
use Rattle.job_run.specs.declared.states.Doing.TheVariants as doing
use Rattle.job_run.specs.declared.states.Filing.{Filing}
use Rattle.job_run.specs.declared.states.Filling.TheVariants as filling
use Rattle.job_run.specs.declared.states.Order.{Order}
use Rattle.job_run.specs.declared.states.Source.{Source}
use Rattle.job_run.proofs.Beginnings.{node_passes}
use Rattle.job_run.proofs.DigestLemmas.{digest_of-size, same_digest-eq, same_digest-refl}

-- a test of numbers
le_so : (m n : ℕ) → nat_le m n ≡ true → m ≤ n
le_so m n is = grind (arith, nat_tests)

lt_so : (m n : ℕ) → nat_le m n ≡ false → n < m
lt_so m n is = grind (arith, nat_tests)

-- a file of a tree is small
pub file_small : (place : List (List ℕ)) (part : Option Part) (order : Order) (filing : Filing) (from : Source) (reading : Reading) →
    IsMaking place part order (doing.File filing (filling.Due from reading)) → filing.digest.size ≤ greatest_file
file_small place part order filing from reading m =
    le_so filing.digest.size greatest_file
    (node_passes is_small order.tree order.method order.lent order.left.items m.nodes (filing_node filing) m.at.0 m.makeable.small)

-- no more was given than the file has
pub reading_within : (place : List (List ℕ)) (part : Option Part) (order : Order) (filing : Filing) (from : Source) (reading : Reading) →
    IsMaking place part order (doing.File filing (filling.Due from reading)) → reading.at ≤ filing.digest.size
reading_within place part order filing from reading m =
    let here : reading.at ≡ length m.at.1.given = m.at.1.has.at in
    let within : length m.at.1.given ≤ filing.digest.size = m.at.1.within in
    omega arith

-- a piece is short
pub asked_short : (size at : ℕ) → asked_for size at ≤ most_bytes + 1
asked_short size at = by (is_last size at) refl
  where
    by : (b : Bool) → is_last size at ≡ b → (if b then (size - at) + 1 else most_bytes) ≤ most_bytes + 1
    by true is = let short : size - at ≤ most_bytes = le_so (size - at) most_bytes is in omega arith
    by false is = omega arith

-- ---- what is put next

-- a whole piece
pub gets_more : (place : List (List ℕ)) (part : Option Part) (order : Order) (filing : Filing) (from : Source) (reading next : Reading) (piece : Vec ℕ Global) →
    IsMaking place part order (doing.File filing (filling.Due from reading)) →
    ((given : List ℕ) → HasGiven reading given → Takes filing.digest given piece.items (taken.More next)) →
    IsMaking place part order (doing.File filing (filling.Got from reading.at piece (Some next)))
gets_more place part order filing from reading next piece m takes = record {
  makeable = m.makeable;
  nodes = m.nodes;
  at = (
    m.at.0,
    record {
      given = given;
      offset = m.at.1.has.at;
      last = more;
      follows = (both.1, whole, within);
      grows = m.at.1.grows;
      source = m.at.1.source;
      some = m.at.1.some;
    },
  );
}
  where
    given : List ℕ
    given = m.at.1.given

    both : (goes_on filing.digest given piece.items ≡ true) × HasGiven next (given ++ piece.items)
    both = takes given m.at.1.has

    whole : length piece.items ≡ most_bytes
    whole = eqb-true (length piece.items) most_bytes (second_so (not (is_last filing.digest.size (length given))) (length piece.items == most_bytes) both.0)

    unended : (b : Bool) → not b ≡ true → b ≡ false
    unended true is = cc
    unended false is = refl

    more : is_last filing.digest.size (length given) ≡ false
    more =
        unended (is_last filing.digest.size (length given)) (first_so (not (is_last filing.digest.size (length given))) (length piece.items == most_bytes) both.0)

    within : length (given ++ piece.items) ≤ filing.digest.size
    within =
        let far : most_bytes < filing.digest.size - length given = lt_so (filing.digest.size - length given) most_bytes more in
        let long : length (given ++ piece.items) ≡ length given + length piece.items = length-append given piece.items in
        let one : length piece.items ≡ most_bytes = whole in
        omega arith

-- the last piece
pub gets_last : (place : List (List ℕ)) (part : Option Part) (order : Order) (filing : Filing) (from : Source) (reading : Reading) (piece : Vec ℕ Global) →
    IsMaking place part order (doing.File filing (filling.Due from reading)) →
    ((given : List ℕ) → HasGiven reading given → Takes filing.digest given piece.items taken.Last) →
    IsMaking place part order (doing.File filing (filling.Got from reading.at piece None))
gets_last place part order filing from reading piece m takes = record {
  makeable = m.makeable;
  nodes = m.nodes;
  at = (
    m.at.0,
    record {
      given = m.at.1.given;
      offset = m.at.1.has.at;
      last = first_so (is_last filing.digest.size (length m.at.1.given)) (same_digest (digest_of (m.at.1.given ++ piece.items)) filing.digest) (takes m.at.1.given m.at.1.has);
      follows = same_digest-eq (digest_of (m.at.1.given ++ piece.items)) filing.digest
          (second_so (is_last filing.digest.size (length m.at.1.given)) (same_digest (digest_of (m.at.1.given ++ piece.items)) filing.digest) (takes m.at.1.given m.at.1.has));
      grows = m.at.1.grows;
      source = m.at.1.source;
      some = m.at.1.some;
    },
  );
}

-- ---- what fails

pub judged_more : (wanted : Digest) (given piece : List ℕ) (next : Reading) → Takes wanted given piece (taken.More next) → None ≡ judged wanted given piece
judged_more wanted given piece next takes =
    sym (ap (λ b. if b || completes wanted given piece then None else Some (outcome.Corrupt wanted (digest_of (given ++ piece)))) takes.0)

pub judged_last : (wanted : Digest) (given piece : List ℕ) → Takes wanted given piece taken.Last → None ≡ judged wanted given piece
judged_last wanted given piece takes = by (goes_on wanted given piece)
  where
    by : (b : Bool) → None ≡ (if b || completes wanted given piece then None else Some (outcome.Corrupt wanted (digest_of (given ++ piece))))
    by true = refl
    by false = sym (ap (λ b. if b then None else Some (outcome.Corrupt wanted (digest_of (given ++ piece)))) takes)

pub judged_wrong : (wanted : Digest) (given piece : List ℕ) (found : Digest) → Takes wanted given piece (taken.Wrong found) →
    Some (outcome.Corrupt wanted found) ≡ judged wanted given piece
judged_wrong wanted given piece found takes =
    ap (λ (d : Digest). Some (outcome.Corrupt wanted d)) takes.2
    ∙ sym (ap (λ b. if b || completes wanted given piece then None else Some (outcome.Corrupt wanted (digest_of (given ++ piece)))) takes.0
    ∙ ap (λ b. if b then None else Some (outcome.Corrupt wanted (digest_of (given ++ piece)))) takes.1)

or_left : (b c d : Bool) → (c ≡ true → d ≡ true) → b || c ≡ true → b || d ≡ true
or_left true c d so is = refl
or_left false c d so is = so is

-- what is among some nodes is among them and others
any_first : (test : Flat → Bool) (back nodes : List Flat) → list_any test nodes ≡ true → list_any test (nodes ++ back) ≡ true
any_first test back [] is = cc
any_first test back (node ∷ nodes) is =
    or_left (test node) (list_any test nodes) (list_any test (nodes ++ back)) (λ so. any_first test back nodes so) is

-- a digest among the files of a tree
pub file_among : (place : List (List ℕ)) (part : Option Part) (order : Order) (filing : Filing) (from : Source) (reading : Reading) →
    IsMaking place part order (doing.File filing (filling.Due from reading)) → has_file_of order.tree filing.digest ≡ true
file_among place part order filing from reading m =
    subst (λ (t : List Flat). has_file_of t filing.digest ≡ true) (sym (m.at.0.nodes))
    (any_first (is_node_of filing.digest) m.at.0.back (m.nodes ++ filing_node filing ∷ []) (among m.nodes))
  where
    by : (b c : Bool) → c ≡ true → b || c ≡ true
    by true c is = refl
    by false c is = is

    among : (nodes : List Flat) → list_any (is_node_of filing.digest) (nodes ++ filing_node filing ∷ []) ≡ true
    among [] = ap (λ b. b || false) (same_digest-refl filing.digest)
    among (node ∷ nodes) =
        by (is_node_of filing.digest node) (list_any (is_node_of filing.digest) (nodes ++ filing_node filing ∷ [])) (among nodes)

-- the digest found isn't the one wanted
pub found_other : (wanted : Digest) (given piece : List ℕ) (at : ℕ) (found : Digest) → at ≡ length given → length given ≤ wanted.size →
    length piece ≤ asked_for wanted.size at → Takes wanted given piece (taken.Wrong found) → same_digest found wanted ≡ false
found_other wanted given piece at found here within short takes =
    subst (λ (d : Digest). same_digest d wanted ≡ false) (sym takes.2) (by (is_last wanted.size (length given)) refl)
  where
    by : (b : Bool) → is_last wanted.size (length given) ≡ b → same_digest (digest_of (given ++ piece)) wanted ≡ false
    by true last = sym (ap (λ b. b && same_digest (digest_of (given ++ piece)) wanted) last) ∙ takes.1
    by false more = turn (same_digest (digest_of (given ++ piece)) wanted) refl
      where
        other : (length piece == most_bytes) ≡ false
        other = sym (ap (λ b. not b && (length piece == most_bytes)) more) ∙ takes.0

        turn : (b : Bool) → same_digest (digest_of (given ++ piece)) wanted ≡ b → b ≡ false
        turn false is = refl
        turn true is =
            let same : digest_of (given ++ piece) ≡ wanted = same_digest-eq (digest_of (given ++ piece)) wanted is in
            let size : length (given ++ piece) ≡ wanted.size = sym (digest_of-size (given ++ piece)) ∙ ap (λ (d : Digest). d.size) same in
            let long : length (given ++ piece) ≡ length given + length piece = length-append given piece in
            let far : most_bytes < wanted.size - length given = lt_so (wanted.size - length given) most_bytes more in
            let few : length piece ≤ most_bytes =
            subst (λ (n : ℕ). length piece ≤ n) (ap (λ (n : ℕ). asked_for wanted.size n) here ∙ ap (λ b. if b then (wanted.size - length given) + 1 else most_bytes) more) short in
            let never : ⊥ = omega arith in
            elim never as (λ _. true ≡ false) [ ]

-- ---- where a job stops

no_state : {R : Type 0} {g : Ghosts R} (s : State R g) (place : List (List ℕ)) (tree : List Flat) (lent : Bool) (cost : ℕ) → ⊥ → Continues place tree lent cost s
no_state s place tree lent cost never = elim never as (λ _. Continues place tree lent cost s) [ ]

pub stopped_goes : {R : Type 0} {g : Ghosts R} (region : R) (why : Outcome) (s : State R g) (tree : List Flat) (lent : Bool) (cost : ℕ) → IsStopped region why s →
    MakeEnds tree why → ((left : StatePart R g) → Leaves (Some tree) why left) → Continues (g.place region) tree lent cost s
stopped_goes {R} {g} region why (state.Wiping other) tree lent cost stopped ends leaves = stopped
stopped_goes {R} {g} region why (state.Emptying other) tree lent cost stopped ends leaves = stopped
stopped_goes {R} {g} region why (state.Clearing other order) tree lent cost stopped ends leaves = stopped
stopped_goes {R} {g} region why (state.Making making) tree lent cost stopped ends leaves =
    no_state {g = g} (state.Making making) (g.place region) tree lent cost stopped
stopped_goes {R} {g} region why (state.Ended left ended) tree lent cost stopped ends leaves = record {
  at = ap (λ (r : R). g.place r) stopped.0;
  ends = subst (λ (o : Outcome). MakeEnds tree o) (sym stopped.1) ends;
  leaves = subst (λ (o : Outcome). Leaves (Some tree) o left) (sym stopped.1) (leaves left);
}
stopped_goes {R} {g} region why state.Moving tree lent cost stopped ends leaves = stopped

-- ---- what the store gave

-- a judgement is no fault of a device
pub judged_no_fault : (wanted : Digest) (given piece : List ℕ) (f : Option Outcome) → f ≡ judged wanted given piece → is_fault f ≡ false
judged_no_fault wanted given piece f is = ap is_fault is ∙ by (goes_on wanted given piece || completes wanted given piece)
  where
    by : (b : Bool) → is_fault (if b then None else Some (outcome.Corrupt wanted (digest_of (given ++ piece)))) ≡ false
    by true = refl
    by false = refl

-- bytes that the store gave, and how they fail
pub store_got : (wanted : Digest) (reading : Reading) (held : Option Blobs) (before after : ℕ) (given piece : List ℕ) (f : Option Outcome) → HasGiven reading given →
    ((given : List ℕ) → HasGiven reading given → f ≡ judged wanted given piece) → GivesPiece (held_at held wanted) reading.at (asked_for wanted.size reading.at) piece →
    IsStoreFailure wanted reading held before after f
store_got wanted reading held before after given piece f has judges gives =
    subst (λ (o : Option Outcome). IsStoreFailure wanted reading held before after o) (sym (judges given has))
    (by (goes_on wanted given piece || completes wanted given piece) refl)
  where
    same : (d : Digest) (others : List ℕ) (c : Bool) → Some (outcome.Corrupt wanted d) ≡ (if c then None else Some (outcome.Corrupt wanted (digest_of (others ++ piece)))) →
        (d ≡ digest_of (others ++ piece)) × (c ≡ false)
    same d others true is = cc
    same d others false is = (cc, refl)

    neither : (b c : Bool) → b || c ≡ false → b ≡ false
    neither true c is = cc
    neither false c is = refl

    by : (b : Bool) → (goes_on wanted given piece || completes wanted given piece) ≡ b →
        IsStoreFailure wanted reading held before after (if b then None else Some (outcome.Corrupt wanted (digest_of (given ++ piece))))
    by true is = tt
    by false is = (
      refl,
      λ others so.
          let first : f ≡ Some (outcome.Corrupt wanted (digest_of (given ++ piece))) =
          judges given has ∙ ap (λ b. if b then None else Some (outcome.Corrupt wanted (digest_of (given ++ piece)))) is in
          let both : (digest_of (given ++ piece) ≡ digest_of (others ++ piece)) × ((goes_on wanted others piece || completes wanted others piece) ≡ false) =
          same (digest_of (given ++ piece)) others (goes_on wanted others piece || completes wanted others piece) (sym first ∙ judges others so) in
          (piece, both.0, record { wrong = neither (goes_on wanted others piece) (completes wanted others piece) both.1; told = gives }),
    )

-- ---- where a file goes on

pub filled_goes : {R : Type 0} (g : Ghosts R) (made : Making R) (region : R) (order : Order) (filing : Filing) (how : Filling) (cost : ℕ) → made.region ≡ region →
    made.order ≡ order → made.doing ≡ doing.File filing how → IsMaking (g.place region) (g.part region) order (doing.File filing how) →
    making_cost order (doing.File filing how) < cost →
    IsMakeOf (g.place region) order.tree order.lent (g.place made.region) (g.part made.region) made.order made.doing × (making_cost made.order made.doing < cost)
filled_goes {R} g made region order filing how cost same kept is stands less =
    subst (λ (r : R). IsMakeOf (g.place region) order.tree order.lent (g.place r) (g.part r) made.order made.doing × (making_cost made.order made.doing < cost)) (sym same)
    (subst (λ (o : Order). IsMakeOf (g.place region) order.tree order.lent (g.place region) (g.part region) o made.doing × (making_cost o made.doing < cost)) (sym kept)
    (subst (λ (d : Doing). IsMakeOf (g.place region) order.tree order.lent (g.place region) (g.part region) order d × (making_cost order d < cost)) (sym is)
    (record { here = refl; tree_is = refl; lent_is = refl; stands = stands }, less)))

-- ---- a file that is begun again

pub again_stands : (place : List (List ℕ)) (part : Option Part) (order : Order) (filing : Filing) (rel : List (List ℕ)) (reading : Reading) (how : Filling) →
    IsMaking place part order (doing.File filing (filling.Due (source.Loan rel) reading)) → BeginsFrom (own_supply order.method) how →
    IsMaking place part order (doing.File filing how)
again_stands place part order filing rel reading how m begins = record {
  makeable = m.makeable;
  nodes = m.nodes;
  at = (
    m.at.0,
    filling_from order.method order.lent filing m.nodes part (own_supply order.method) how
        (own_serves order.method order.lent filing.digest
        (node_passes (is_right order.method) order.tree order.method order.lent order.left.items m.nodes (filing_node filing) m.at.0 m.makeable.bytes) m.at.1.some)
        m.at.1.grows.elsewhere begins,
  );
}

-- where a row's own bytes come from takes no more calls than this
own_cost : (way : Method) (size : ℕ) → supply_cost size (own_supply way) ≡ file_cost size 0
own_cost (method.Write bytes) size = refl
own_cost method.Fetch size = refl
own_cost (method.Copy from rest stamp (origin.Inline bytes)) size = refl
own_cost (method.Copy from rest stamp origin.Store) size = refl

pub again_less : (order : Order) (filing : Filing) (rel : List (List ℕ)) (reading : Reading) (how : Filling) →
    filling_cost filing.digest.size how ≡ supply_cost filing.digest.size (own_supply order.method) →
    making_cost order (doing.File filing how) < making_cost order (doing.File filing (filling.Due (source.Loan rel) reading))
again_less order filing rel reading how cost =
    let own : supply_cost filing.digest.size (own_supply order.method) ≡ file_cost filing.digest.size 0 = own_cost order.method filing.digest.size in
    let is : filling_cost filing.digest.size how ≡ file_cost filing.digest.size 0 = cost ∙ own in
    let less : filling_cost filing.digest.size how < filling_cost filing.digest.size (filling.Due (source.Loan rel) reading) = rw is (omega arith) in
    plus (filling_cost filing.digest.size how) (filling_cost filing.digest.size (filling.Due (source.Loan rel) reading)) (acts_cost order.left.items) less
  where
    plus : (a b n : ℕ) → a < b → a + n < b + n
    plus a b n less = omega arith
