use Rattle.std.proofs.Common.{sym, ◌∙◌, ◌≡◌, subst, List, ℕ, true}
use Rattle.std.specs.List.{list_all}
use Rattle.mat_path.specs.Names.{is_name, pieces}
use Rattle.mat_path.proofs.ReadLemmas.{cut_named, end_named, cut_step, end_step}
use Rattle.mat_path.proofs.reading.names_of.Goals as goal

pub named-requires : goal.named-requires
named-requires c = (cut_named c.loop-end.rest.now c.in-Some.end (sym c.in-Some.ensures) c.loop-end.invariant.named).0

pub loop-end-preserved : goal.loop-end-preserved
loop-end-preserved c = record {
  begun = cut_step c.loop-end.names.items c.push.new.self.items c.in_ok-named.field-0 c.loop-end.rest.now c.behind-rest.result.now c.args.text.now c.in-Some.end (sym c.in-Some.ensures) c.in_ok-named.ensures.ok c.behind-rest.ensures c.in_ok-push.ensures.items c.loop-end.invariant.begun;
  named = subst (λ (t : List ℕ). list_all is_name (pieces t) ≡ true) (sym c.behind-rest.ensures) (cut_named c.loop-end.rest.now c.in-Some.end (sym c.in-Some.ensures) c.loop-end.invariant.named).1;
}

pub named-requires-2 : goal.named-requires-2
named-requires-2 c = end_named c.loop-end.rest.now (sym c.slash.ensures ∙ c.in_default.is) c.loop-end.invariant.named

pub returns : goal.returns
returns c = record {
  ok = end_step c.loop-end.names.items c.push-2.new.self.items c.in_ok-named-2.field-0 c.loop-end.rest.now c.args.text.now (sym c.slash.ensures ∙ c.in_default.is) c.in_ok-named-2.ensures.ok c.in_ok-push-2.ensures.items c.loop-end.invariant.begun;
}
