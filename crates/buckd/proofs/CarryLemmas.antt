-- Acts that are carried out one after the other.
use Rattle.std.specs.Cmp.{second_so}
use Rattle.std.proofs.Common.{◌≡◌, ℕ, ◌+◌, ◌<◌, true, List, [], ◌∷◌, drop, length, get_or, Option, Some, None, if◌then◌else◌, refl, ap, ◌∙◌, sym, subst}
use Rattle.std.proofs.lemmas.List.{drop_more}
use Rattle.std.specs.List.{list_all}
use Rattle.std.specs.Option.{is_some}
use Rattle.mat_model.specs.declared.entries.Outcome.{Outcome}
use Rattle.mat_model.specs.declared.entries.Outcome.TheVariants as outcome
use Rattle.mat_tree.specs.Parts.{Part}
use Rattle.fetch_port.specs.Fetches.{Blobs}
use Rattle.fetch_port.specs.declared.mem_store.MemStore.{MemStore}
use Rattle.region_port.specs.Calls.{Paths}
use Rattle.region_port.specs.Memory.{part_of, rough_of}
use Rattle.region_port.specs.declared.mem_region.MemRegion.{MemRegion}
use Rattle.write_plan.specs.Carried.{carry, carry_one}
use Rattle.write_plan.specs.declared.act.Act.{Act}
use Rattle.write_plan.specs.declared.method.Method.{Method}
use Rattle.buckd.specs.Making.{act_failure, acts_done, asked_by, asks_after, fits, is_supplied, or_made, outcome_of, rough_after, rough_by, supplied}

-- how far a region and a store are
pub record At : Type 0 where
  pub asks : ℕ
  pub part : Part
  pub rough : Paths

abbrev pub at : MemRegion → MemStore → At
at region store = record { asks = store.asks; part = part_of region; rough = rough_of region }

-- what doesn't change while acts are carried out
pub record Fixed : Type 0 where
  pub blobs : Blobs
  pub way : Method
  pub place : List (List ℕ)

-- an act leads from here to there
pub record Passes (f : Fixed) (one : Act) (o : Option Outcome) (now next : At) : Type 0 where
  pub failure : o ≡ act_failure f.blobs one
  pub asks : next.asks ≡ asked_by one now.asks
  pub part : next.part ≡ (if is_some o then now.part else carry_one (supplied f.blobs f.way) one now.part)
  pub rough : next.rough ≡ (if is_some o then now.rough else rough_by f.place one now.rough)

-- where acts lead
pub record Ends (f : Fixed) (acts : List Act) (now : At) (made : Outcome) (last : At) : Type 0 where
  pub outcome : made ≡ outcome_of f.blobs acts
  pub asks : last.asks ≡ asks_after f.blobs acts now.asks
  pub part : last.part ≡ carry (supplied f.blobs f.way) (acts_done f.blobs acts) now.part
  pub rough : last.rough ≡ rough_after f.place (acts_done f.blobs acts) now.rough

-- the acts that are left lead where all do, and may be carried out
pub record Leads (f : Fixed) (left : List Act) (now : At) (acts : List Act) (start : At) : Type 0 where
  pub fit : list_all (fits f.place) left ≡ true
  pub have : list_all (is_supplied f.way) left ≡ true
  pub ends : (failure : Outcome) (last : At) → Ends f left now failure last → Ends f acts start failure last

pub leads-start : (f : Fixed) (acts : List Act) (start : At) → list_all (fits f.place) acts ≡ true → list_all (is_supplied f.way) acts ≡ true → Leads f acts start acts start
leads-start f acts start fit have = record { fit = fit; have = have; ends = λ failure last e. e }

-- the act that comes next
pub next_is : (f : Fixed) (acts : List Act) (i : ℕ) (one : Act) (now start : At) → i < length acts → one ≡ get_or acts i one → Leads f (drop i acts) now acts start →
    Leads f (one ∷ drop (i + 1) acts) now acts start
next_is f acts i one now start more is leads =
    subst (λ (l : List Act). Leads f l now acts start) (drop_more acts i one more ∙ ap (λ (a : Act). a ∷ drop (i + 1) acts) (sym is)) leads

-- an act that was carried out
pub leads-step : (f : Fixed) (one : Act) (left : List Act) (failure : Option Outcome) (now next : At) (acts : List Act) (start : At) →
    Passes f one failure now next → failure ≡ None → Leads f (one ∷ left) now acts start → Leads f left next acts start
leads-step f one left failure now next acts start passes none leads = record {
  fit = second_so (fits f.place one) (list_all (fits f.place) left) leads.fit;
  have = second_so (is_supplied f.way one) (list_all (is_supplied f.way) left) leads.have;
  ends = λ failed last e. leads.ends failed last (ends failed last e);
}
  where
    fine : act_failure f.blobs one ≡ None
    fine = sym passes.failure ∙ none

    asks : next.asks ≡ asked_by one now.asks
    asks = passes.asks

    part : next.part ≡ carry_one (supplied f.blobs f.way) one now.part
    part = passes.part ∙ ap (λ (o : Option Outcome). if is_some o then now.part else carry_one (supplied f.blobs f.way) one now.part) none

    rough : next.rough ≡ rough_by f.place one now.rough
    rough = passes.rough ∙ ap (λ (o : Option Outcome). if is_some o then now.rough else rough_by f.place one now.rough) none

    ends : (failed : Outcome) (last : At) → Ends f left next failed last → Ends f (one ∷ left) now failed last
    ends failed last e = record {
      outcome = e.outcome ∙ ap (λ (o : Option Outcome). or_made o (outcome_of f.blobs left)) (sym fine);
      asks =
          e.asks ∙ ap (asks_after f.blobs left) asks
          ∙ ap (λ (o : Option Outcome). if is_some o then asked_by one now.asks else asks_after f.blobs left (asked_by one now.asks)) (sym fine);
      part =
          e.part ∙ ap (carry (supplied f.blobs f.way) (acts_done f.blobs left)) part
          ∙ ap (λ (o : Option Outcome). carry (supplied f.blobs f.way) (if is_some o then [] else one ∷ acts_done f.blobs left) now.part) (sym fine);
      rough =
          e.rough ∙ ap (rough_after f.place (acts_done f.blobs left)) rough
          ∙ ap (λ (o : Option Outcome). rough_after f.place (if is_some o then [] else one ∷ acts_done f.blobs left) now.rough) (sym fine);
    }

-- an act that failed
pub ends-failed : (f : Fixed) (one : Act) (left : List Act) (failure : Option Outcome) (failed : Outcome) (now next : At) (acts : List Act) (start : At) →
    Passes f one failure now next → failure ≡ Some failed → Leads f (one ∷ left) now acts start → Ends f acts start failed next
ends-failed f one left failure failed now next acts start passes is leads = leads.ends failed next (record {
  outcome = ap (λ (o : Option Outcome). or_made o (outcome_of f.blobs left)) (sym fails);
  asks =
      passes.asks
      ∙ ap (λ (o : Option Outcome). if is_some o then asked_by one now.asks else asks_after f.blobs left (asked_by one now.asks)) (sym fails);
  part =
      passes.part ∙ ap (λ (o : Option Outcome). if is_some o then now.part else carry_one (supplied f.blobs f.way) one now.part) is
      ∙ ap (λ (o : Option Outcome). carry (supplied f.blobs f.way) (if is_some o then [] else one ∷ acts_done f.blobs left) now.part) (sym fails);
  rough =
      passes.rough ∙ ap (λ (o : Option Outcome). if is_some o then now.rough else rough_by f.place one now.rough) is
      ∙ ap (λ (o : Option Outcome). rough_after f.place (if is_some o then [] else one ∷ acts_done f.blobs left) now.rough) (sym fails);
})
  where
    fails : act_failure f.blobs one ≡ Some failed
    fails = sym passes.failure ∙ is

-- no act is left
pub ends-made : (f : Fixed) (i : ℕ) (now : At) (acts : List Act) (start : At) → drop i acts ≡ [] → Leads f (drop i acts) now acts start → Ends f acts start outcome.Made now
ends-made f i now acts start none leads =
    let last : Leads f [] now acts start = subst (λ (l : List Act). Leads f l now acts start) none leads in
    last.ends outcome.Made now (record { outcome = refl; asks = refl; part = refl; rough = refl })

-- an act that leads from here to there, told of the same blobs and place
pub passes-along : (f : Fixed) (blobs : Blobs) (place : List (List ℕ)) (one : Act) (o : Option Outcome) (now next : At) → blobs ≡ f.blobs → place ≡ f.place →
    Passes (record { blobs = blobs; way = f.way; place = place }) one o now next → Passes f one o now next
passes-along f blobs place one o now next same stays passes = record {
  failure = passes.failure ∙ ap (λ (b : Blobs). act_failure b one) same;
  asks = passes.asks;
  part = passes.part ∙ ap (λ (b : Blobs). if is_some o then now.part else carry_one (supplied b f.way) one now.part) same;
  rough = passes.rough ∙ ap (λ (p : List (List ℕ)). if is_some o then now.rough else rough_by p one now.rough) stays;
}
