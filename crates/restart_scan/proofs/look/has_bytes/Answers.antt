use Rattle.std.proofs.Common.{◌+◌, ◌∙◌, ℕ, rules, sym, subst}
use Rattle.restart_scan.specs.Looks as Spec
use Rattle.restart_scan.proofs.ReadLemmas.{read_past, reads_all, reads_on}
use Rattle.restart_scan.proofs.look.has_bytes.Goals as goal

pub returns-then-bytes-clause-has : goal.returns-then-bytes-clause-has
returns-then-bytes-clause-has g c =
    reads_all (g.R.Region.part c.loop-at.region) (g.R.Region.part c.args.region.now) c.args.rel.now c.loop-at.check c.feed.new.self c.loop-at.at 65536
    c.as_slice-bytes.result.now c.in_ok-piece.field-0 c.end.result c.args.digest.now c.eq.result c.loop-at.invariant.part
    c.loop-at.invariant.read c.in_ok-piece.ensures.gives (search rules) c.feed.ensures (search rules) (search rules) c.end.ensures (search rules)

pub loop-at-preserved : goal.loop-at-preserved
loop-at-preserved g c = record {
  place = c.in_ok-piece.ensures.place ∙ c.loop-at.invariant.place;
  part = c.in_ok-piece.ensures.part ∙ c.loop-at.invariant.part;
  rough = c.in_ok-piece.ensures.rough ∙ c.loop-at.invariant.rough;
  read = subst (λ (k : ℕ). Spec.IsReadTo (g.R.Region.part c.read.new.region) c.args.rel.now c.feed.new.self (c.loop-at.at + k)) (search rules)
      (reads_on (g.R.Region.part c.loop-at.region) (g.R.Region.part c.read.new.region) c.args.rel.now c.loop-at.check c.feed.new.self c.loop-at.at 65536
      c.as_slice-bytes.result.now c.in_ok-piece.field-0 (sym c.in_ok-piece.ensures.part) c.loop-at.invariant.read c.in_ok-piece.ensures.gives (search rules)
      c.feed.ensures (search rules));
}

pub returns-clause-has : goal.returns-clause-has
returns-clause-has g c =
    read_past (g.R.Region.part c.loop-at.region) (g.R.Region.part c.args.region.now) c.args.rel.now c.loop-at.check c.loop-at.at c.args.digest.now
    c.loop-at.invariant.part c.loop-at.invariant.read (search rules)
