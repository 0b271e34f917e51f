use Rattle.std.proofs.Common.{◌≡◌, ◌∙◌, ◌∷◌, ℕ, false, true, List, map, ap, sym, subst}
use Rattle.std.specs.List.{list_all}
use Rattle.mat_path.specs.Names.{is_prefix}
use Rattle.mat_tree.specs.Parts.{HasTree, below, replaced, without}
use Rattle.mat_tree.proofs.Joins.{on_ok}
use Rattle.mat_model.specs.declared.entries.Outcome.{Outcome}
use Rattle.mat_model.specs.declared.entries.Outcome.TheVariants as outcome
use Rattle.fetch_port.specs.Memory.{blobs_of}
use Rattle.region_port.specs.Disks.{disk_content, disk_rough}
use Rattle.region_port.specs.Memory.{part_of, rough_of}
use Rattle.write_plan.specs.Carried.{carry, everywhere}
use Rattle.write_plan.specs.Plans.{act_of, plan_of}
use Rattle.write_plan.specs.declared.act.Act.{Act}
use Rattle.write_plan.specs.declared.act.Act.TheVariants as act
use Rattle.write_plan.proofs.Lending.{unlent_may}
use Rattle.buckd.specs.Making.{acts_done, fits, is_supplied, is_write, left_by, make_acts, no_nodes, outcome_of, rough_after, supplied}
use Rattle.buckd.proofs.GiveLemmas.{both_ok, given_is, holds_given, rough_elsewhere, rough_synced, shown_given, synced_after}
use Rattle.buckd.proofs.MakeLemmas.{holds_made, plan_done, plan_fits, plan_supplied, shown_made}
use Rattle.buckd.proofs.making.make_on_disk.Goals as goal

pub plan-requires : goal.plan-requires
plan-requires c = unlent_may c.args.method.now c.args.tree.now

pub carry_out-outcome-requires-clause-fits : goal.carry_out-outcome-requires-clause-fits
carry_out-outcome-requires-clause-fits c =
    subst (λ (acts : List Act). list_all (fits c.in_ok-region.region.place) acts ≡ true) (sym (c.as_slice.ensures.value ∙ c.in_ok-acts.ensures.ok))
    (subst (λ (place : List (List ℕ)). list_all (fits place) (plan_of c.args.tree.now c.args.method.now false) ≡ true) (sym c.in_ok-region.ensures.place)
    (plan_fits c.args.path.now c.args.method.now c.args.tree.now c.requires.places))

pub carry_out-outcome-requires-clause-supplied : goal.carry_out-outcome-requires-clause-supplied
carry_out-outcome-requires-clause-supplied c =
    subst (λ (acts : List Act). list_all (is_supplied c.args.method.now) acts ≡ true) (sym (c.as_slice.ensures.value ∙ c.in_ok-acts.ensures.ok))
    (plan_supplied c.args.method.now c.args.tree.now c.requires.bytes)

-- what the disk has once the part came back
given : (c : goal.After-drop-acts-2) →
    disk_content c.give.new.self ≡ replaced c.args.path.now (part_of c.carry_out-outcome.new.region) (without c.args.path.now (disk_content c.args.disk.now))
given c =
    given_is c.carry_out-outcome.new.region.place c.args.path.now (part_of c.carry_out-outcome.new.region)
    (disk_content c.take.new.self) (disk_content c.args.disk.now) (disk_content c.give.new.self)
    (c.carry_out-outcome.ensures.place ∙ c.in_ok-region.ensures.place) c.in_ok-region.ensures.content c.give.ensures.content

pub returns-clause-shown : goal.returns-clause-shown
returns-clause-shown c =
    on_ok c.carry_out-outcome.result (λ carried.
    shown_given c.args.path.now (part_of c.carry_out-outcome.new.region) (disk_content c.args.disk.now) (disk_content c.give.new.self)
    (left_by (acts_done (blobs_of c.args.store.now) (make_acts (is_write c.args.method.now) c.args.tree.now)) no_nodes) (given c)
    (shown_made (blobs_of c.args.store.now) c.args.method.now c.args.tree.now c.as_slice.result.now (part_of c.in_ok-region.region)
    (part_of c.carry_out-outcome.new.region) c.requires.bytes (c.as_slice.ensures.value ∙ c.in_ok-acts.ensures.ok) carried))
    c.carry_out-outcome.ensures.part

pub returns-clause-holds : goal.returns-clause-holds
returns-clause-holds c =
    both_ok c.carry_out-outcome.result
    (part_of c.carry_out-outcome.new.region ≡ carry (supplied (blobs_of c.args.store.now) c.args.method.now)
    (acts_done (blobs_of c.args.store.now) c.as_slice.result.now) (part_of c.in_ok-region.region))
    (λ (ended : Outcome). ended ≡ outcome_of (blobs_of c.args.store.now) c.as_slice.result.now)
    (λ (ended : Outcome). ended ≡ outcome.Made → HasTree (below c.args.path.now (disk_content c.give.new.self)) c.args.tree.now)
    (λ ended carried ends made.
    holds_given c.args.path.now (part_of c.carry_out-outcome.new.region) (disk_content c.args.disk.now) (disk_content c.give.new.self) c.args.tree.now (given c)
    (holds_made (blobs_of c.args.store.now) c.args.method.now c.args.tree.now c.as_slice.result.now c.in_ok-acts.acts.items (part_of c.in_ok-region.region)
    (part_of c.carry_out-outcome.new.region) ended c.requires.bytes c.as_slice.ensures.value c.in_ok-acts.ensures.ok
    (λ bytes. c.in_ok-acts.ensures.holds (everywhere bytes)) carried ends made))
    c.carry_out-outcome.ensures.part c.carry_out-outcome.ensures.outcome

pub returns-clause-synced : goal.returns-clause-synced
returns-clause-synced c =
    both_ok c.carry_out-outcome.result
    (rough_of c.carry_out-outcome.new.region ≡ rough_after c.in_ok-region.region.place (acts_done (blobs_of c.args.store.now) c.as_slice.result.now) (rough_of c.in_ok-region.region))
    (λ (ended : Outcome). ended ≡ outcome_of (blobs_of c.args.store.now) c.as_slice.result.now)
    (λ (ended : Outcome). ended ≡ outcome.Made → (place : List (List ℕ)) → is_prefix c.args.path.now place ≡ true → disk_rough c.give.new.self place ≡ false)
    (λ ended carried ends made.
    rough_synced c.args.path.now (disk_rough c.args.disk.now) (disk_rough c.take.new.self) (rough_of c.carry_out-outcome.new.region) (disk_rough c.give.new.self)
    c.in_ok-region.ensures.rough
    (carried
    ∙ ap (λ (l : List Act). rough_after c.in_ok-region.region.place l (rough_of c.in_ok-region.region))
    (plan_done (blobs_of c.args.store.now) c.args.method.now c.args.tree.now c.as_slice.result.now ended (c.as_slice.ensures.value ∙ c.in_ok-acts.ensures.ok) ends made)
    ∙ synced_after c.in_ok-region.region.place (act.Wipe ∷ map (act_of c.args.method.now false) c.args.tree.now) (rough_of c.in_ok-region.region))
    c.give.ensures.rough)
    c.carry_out-outcome.ensures.rough c.carry_out-outcome.ensures.outcome

pub returns-clause-elsewhere : goal.returns-clause-elsewhere
returns-clause-elsewhere c =
    on_ok c.carry_out-outcome.result (λ carried.
    rough_elsewhere c.args.path.now (acts_done (blobs_of c.args.store.now) c.as_slice.result.now) (disk_rough c.args.disk.now) (disk_rough c.take.new.self)
    (rough_of c.in_ok-region.region) (rough_of c.carry_out-outcome.new.region) (disk_rough c.give.new.self)
    c.in_ok-region.ensures.region_rough c.in_ok-region.ensures.rough
    (carried
    ∙ ap (λ (p : List (List ℕ)). rough_after p (acts_done (blobs_of c.args.store.now) c.as_slice.result.now) (rough_of c.in_ok-region.region)) c.in_ok-region.ensures.place)
    c.give.ensures.rough)
    c.carry_out-outcome.ensures.rough
