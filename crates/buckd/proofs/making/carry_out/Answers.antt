use Rattle.std.specs.Cmp.{first_so}
use Rattle.std.proofs.Common.{◌∙◌, ◌+◌, ℕ, List, ◌∷◌, drop, ap, refl}
use Rattle.std.proofs.lemmas.List.{drop_all}
use Rattle.std.specs.List.{list_all}
use Rattle.mat_model.specs.declared.entries.Outcome.TheVariants as outcome
use Rattle.fetch_port.specs.Memory.{blobs_of}
use Rattle.buckd.specs.Making.{fits, is_supplied}
use Rattle.buckd.proofs.CarryLemmas.{Ends, Leads, Passes, at, ends-failed, ends-made, leads-start, leads-step, next_is, passes-along}
use Rattle.buckd.proofs.making.carry_out.Goals as goal

pub loop-act-init : goal.loop-act-init
loop-act-init c = record {
  place = refl;
  blobs = refl;
  leads =
      leads-start (record { blobs = blobs_of c.args.store.now; way = c.args.method.now; place = c.args.region.now.place })
      c.args.acts.now (at c.args.region.now c.args.store.now) c.requires.fits c.requires.supplied;
}

-- what is left, with the act that comes next
next : (c : goal.After-put_act-arg-in-loop-act-1) →
    Leads (record { blobs = blobs_of c.args.store.now; way = c.args.method.now; place = c.args.region.now.place })
    (c.act-item.result ∷ drop (c.loop-act.act-index + 1) c.args.acts.now) (at c.loop-act.region c.loop-act.store) c.args.acts.now (at c.args.region.now c.args.store.now)
next c =
    next_is (record { blobs = blobs_of c.args.store.now; way = c.args.method.now; place = c.args.region.now.place })
    c.args.acts.now c.loop-act.act-index c.act-item.result
    (at c.loop-act.region c.loop-act.store) (at c.args.region.now c.args.store.now) c.loop-act-test.true c.act-item.is c.loop-act.invariant.leads

pub put_act-requires-clause-fits : goal.put_act-requires-clause-fits
put_act-requires-clause-fits c =
    ap (λ (place : List (List ℕ)). fits place c.act-item.result) c.loop-act.invariant.place
    ∙ first_so (fits c.args.region.now.place c.act-item.result) (list_all (fits c.args.region.now.place) (drop (c.loop-act.act-index + 1) c.args.acts.now)) (next c).fit

pub put_act-requires-clause-supplied : goal.put_act-requires-clause-supplied
put_act-requires-clause-supplied c =
    first_so (is_supplied c.args.method.now c.act-item.result) (list_all (is_supplied c.args.method.now) (drop (c.loop-act.act-index + 1) c.args.acts.now)) (next c).have

-- what the act did
passes_failed : (c : goal.In-Some) →
    Passes (record { blobs = blobs_of c.args.store.now; way = c.args.method.now; place = c.args.region.now.place })
    c.act-item.result c.in_ok-failure.field-0 (at c.loop-act.region c.loop-act.store) (at c.put_act.new.region c.put_act.new.store)
passes_failed c =
    passes-along (record { blobs = blobs_of c.args.store.now; way = c.args.method.now; place = c.args.region.now.place })
    (blobs_of c.loop-act.store) c.loop-act.region.place c.act-item.result c.in_ok-failure.field-0
    (at c.loop-act.region c.loop-act.store) (at c.put_act.new.region c.put_act.new.store) c.loop-act.invariant.blobs c.loop-act.invariant.place
    (record { failure = c.in_ok-failure.ensures.failure; asks = c.in_ok-failure.ensures.asks; part = c.in_ok-failure.ensures.part; rough = c.in_ok-failure.ensures.rough })

passes_on : (c : goal.In_default) →
    Passes (record { blobs = blobs_of c.args.store.now; way = c.args.method.now; place = c.args.region.now.place })
    c.act-item.result c.in_ok-failure.field-0 (at c.loop-act.region c.loop-act.store) (at c.put_act.new.region c.put_act.new.store)
passes_on c =
    passes-along (record { blobs = blobs_of c.args.store.now; way = c.args.method.now; place = c.args.region.now.place })
    (blobs_of c.loop-act.store) c.loop-act.region.place c.act-item.result c.in_ok-failure.field-0
    (at c.loop-act.region c.loop-act.store) (at c.put_act.new.region c.put_act.new.store) c.loop-act.invariant.blobs c.loop-act.invariant.place
    (record { failure = c.in_ok-failure.ensures.failure; asks = c.in_ok-failure.ensures.asks; part = c.in_ok-failure.ensures.part; rough = c.in_ok-failure.ensures.rough })

-- where all acts lead, if this one failed
failed : (c : goal.In-Some) →
    Ends (record { blobs = blobs_of c.args.store.now; way = c.args.method.now; place = c.args.region.now.place })
    c.args.acts.now (at c.args.region.now c.args.store.now) c.in-Some.failure (at c.put_act.new.region c.put_act.new.store)
failed c =
    ends-failed (record { blobs = blobs_of c.args.store.now; way = c.args.method.now; place = c.args.region.now.place })
    c.act-item.result (drop (c.loop-act.act-index + 1) c.args.acts.now) c.in_ok-failure.field-0 c.in-Some.failure
    (at c.loop-act.region c.loop-act.store) (at c.put_act.new.region c.put_act.new.store) c.args.acts.now (at c.args.region.now c.args.store.now)
    (passes_failed c) c.in-Some.is
    (next_is (record { blobs = blobs_of c.args.store.now; way = c.args.method.now; place = c.args.region.now.place })
    c.args.acts.now c.loop-act.act-index c.act-item.result
    (at c.loop-act.region c.loop-act.store) (at c.args.region.now c.args.store.now) c.loop-act-test.true c.act-item.is c.loop-act.invariant.leads)

pub returns-in-Some-clause-asks : goal.returns-in-Some-clause-asks
returns-in-Some-clause-asks c = (failed c).asks

pub returns-in-Some-clause-outcome : goal.returns-in-Some-clause-outcome
returns-in-Some-clause-outcome c = (failed c).outcome

pub returns-in-Some-clause-part : goal.returns-in-Some-clause-part
returns-in-Some-clause-part c = (failed c).part

pub returns-in-Some-clause-rough : goal.returns-in-Some-clause-rough
returns-in-Some-clause-rough c = (failed c).rough

pub loop-act-preserved : goal.loop-act-preserved
loop-act-preserved c = record {
  place = c.put_act.ensures.place ∙ c.loop-act.invariant.place;
  blobs = c.put_act.ensures.blobs ∙ c.loop-act.invariant.blobs;
  leads =
      leads-step (record { blobs = blobs_of c.args.store.now; way = c.args.method.now; place = c.args.region.now.place })
      c.act-item.result (drop (c.loop-act.act-index + 1) c.args.acts.now) c.in_ok-failure.field-0
      (at c.loop-act.region c.loop-act.store) (at c.put_act.new.region c.put_act.new.store) c.args.acts.now (at c.args.region.now c.args.store.now)
      (passes_on c) c.in_default.is
      (next_is (record { blobs = blobs_of c.args.store.now; way = c.args.method.now; place = c.args.region.now.place })
      c.args.acts.now c.loop-act.act-index c.act-item.result
      (at c.loop-act.region c.loop-act.store) (at c.args.region.now c.args.store.now) c.loop-act-test.true c.act-item.is c.loop-act.invariant.leads);
}

-- where all acts lead, if none failed
made : (c : goal.After-loop-act) →
    Ends (record { blobs = blobs_of c.args.store.now; way = c.args.method.now; place = c.args.region.now.place })
    c.args.acts.now (at c.args.region.now c.args.store.now) outcome.Made (at c.loop-act.region c.loop-act.store)
made c =
    ends-made (record { blobs = blobs_of c.args.store.now; way = c.args.method.now; place = c.args.region.now.place })
    c.loop-act.act-index (at c.loop-act.region c.loop-act.store) c.args.acts.now (at c.args.region.now c.args.store.now)
    (drop_all c.loop-act.act-index c.args.acts.now c.loop-act-test.false) c.loop-act.invariant.leads

pub returns-clause-asks : goal.returns-clause-asks
returns-clause-asks c = (made c).asks

pub returns-clause-outcome : goal.returns-clause-outcome
returns-clause-outcome c = (made c).outcome

pub returns-clause-part : goal.returns-clause-part
returns-clause-part c = (made c).part

pub returns-clause-rough : goal.returns-clause-rough
returns-clause-rough c = (made c).rough
