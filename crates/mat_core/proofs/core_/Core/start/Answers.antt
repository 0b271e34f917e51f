use Rattle.std.proofs.Common.{rules, ◌∙◌, ◌+◌, ◌≤◌, ◌<◌, ◌^◌, length, refl, sym, ap, subst, arith}
use Rattle.mat_core.specs.Begun.{AreFound}
use Rattle.mat_core.proofs.StartLemmas.{core_started}
use Rattle.mat_core.proofs.core_.Core.start.Goals as goal

pub returns-in-Ok-opened-clause-found : goal.returns-in-Ok-opened-clause-found
returns-in-Ok-opened-clause-found g c =
    subst (λ o. AreFound c.args.entrance.identity c.args.entrance.check o (record { content = g.D.Disk.content c.args.disk; lent = g.D.Disk.lent c.args.disk; rough = g.D.Disk.rough c.args.disk; faults = g.D.Disk.fault_count c.args.disk; watch = g.D.Disk.watch c.args.disk }) (record { content = g.D.Disk.content c.in-Ok-opened.parts.disk; lent = g.D.Disk.lent c.in-Ok-opened.parts.disk; rough = g.D.Disk.rough c.in-Ok-opened.parts.disk; faults = g.D.Disk.fault_count c.in-Ok-opened.parts.disk; watch = g.D.Disk.watch c.in-Ok-opened.parts.disk }) (record { rows = g.K.Keeper.kept c.args.keeper; faults = g.K.Keeper.fault_count c.args.keeper; watch = g.K.Keeper.watch c.args.keeper }) (record { rows = g.K.Keeper.kept c.in-Ok-opened.parts.keeper; faults = g.K.Keeper.fault_count c.in-Ok-opened.parts.keeper; watch = g.K.Keeper.watch c.in-Ok-opened.parts.keeper }))
    (sym (ap (λ b. b.opening.value) c.in-Ok-opened.ensures.base ∙ c.of.ensures))
    (subst (λ d. AreFound c.args.entrance.identity c.args.entrance.check c.in-Ok.opening (record { content = g.D.Disk.content c.args.disk; lent = g.D.Disk.lent c.args.disk; rough = g.D.Disk.rough c.args.disk; faults = g.D.Disk.fault_count c.args.disk; watch = g.D.Disk.watch c.args.disk }) (record { content = g.D.Disk.content d; lent = g.D.Disk.lent d; rough = g.D.Disk.rough d; faults = g.D.Disk.fault_count d; watch = g.D.Disk.watch d }) (record { rows = g.K.Keeper.kept c.args.keeper; faults = g.K.Keeper.fault_count c.args.keeper; watch = g.K.Keeper.watch c.args.keeper }) (record { rows = g.K.Keeper.kept c.in-Ok-opened.parts.keeper; faults = g.K.Keeper.fault_count c.in-Ok-opened.parts.keeper; watch = g.K.Keeper.watch c.in-Ok-opened.parts.keeper }))
    (sym c.in-Ok-opened.ensures.disk)
    (subst (λ k. AreFound c.args.entrance.identity c.args.entrance.check c.in-Ok.opening (record { content = g.D.Disk.content c.args.disk; lent = g.D.Disk.lent c.args.disk; rough = g.D.Disk.rough c.args.disk; faults = g.D.Disk.fault_count c.args.disk; watch = g.D.Disk.watch c.args.disk }) (record { content = g.D.Disk.content c.scan.new.disk; lent = g.D.Disk.lent c.scan.new.disk; rough = g.D.Disk.rough c.scan.new.disk; faults = g.D.Disk.fault_count c.scan.new.disk; watch = g.D.Disk.watch c.scan.new.disk }) (record { rows = g.K.Keeper.kept c.args.keeper; faults = g.K.Keeper.fault_count c.args.keeper; watch = g.K.Keeper.watch c.args.keeper }) (record { rows = g.K.Keeper.kept k; faults = g.K.Keeper.fault_count k; watch = g.K.Keeper.watch k }))
    (sym c.in-Ok-opened.ensures.keeper) (record {
      free = c.in-Ok.ensures.lent ∙ c.requires.none_lent;
      content = c.in-Ok.ensures.content;
      rough = c.in-Ok.ensures.rough;
      checked = c.in-Ok.ensures.checked;
      store = c.in-Ok.ensures.store;
      left = c.in-Ok.ensures.kept;
      unlooked = c.in-Ok.ensures.unlooked;
      gone = c.in-Ok.ensures.gone;
      strays = c.in-Ok.ensures.strays;
    })))

pub invariant_of-result : goal.invariant_of-result
invariant_of-result g c =
    let few : length c.in-Ok.opening.rows + length c.in-Ok.opening.lost ≤ c.args.limits.rows = c.in-Ok.ensures.few in
    let small : c.args.entrance.identity < 2 ^ 64 = search rules in
    core_started
    (λ disk. record { content = g.D.Disk.content disk; lent = g.D.Disk.lent disk; rough = g.D.Disk.rough disk; faults = g.D.Disk.fault_count disk; watch = g.D.Disk.watch disk })
    (λ keeper. record { rows = g.K.Keeper.kept keeper; faults = g.K.Keeper.fault_count keeper; watch = g.K.Keeper.watch keeper }) c.in-Ok-opened.parts _ c.args.limits c.in-Ok.opening c.args.disk c.args.keeper
    c.in-Ok-opened.ensures.base refl c.of.ensures c.of-told.ensures c.of-stored.ensures c.requires.limits c.in-Ok.ensures.right (omega (arith, few)) small
    (subst (λ d. AreFound c.args.entrance.identity c.args.entrance.check c.in-Ok.opening (record { content = g.D.Disk.content c.args.disk; lent = g.D.Disk.lent c.args.disk; rough = g.D.Disk.rough c.args.disk; faults = g.D.Disk.fault_count c.args.disk; watch = g.D.Disk.watch c.args.disk }) (record { content = g.D.Disk.content d; lent = g.D.Disk.lent d; rough = g.D.Disk.rough d; faults = g.D.Disk.fault_count d; watch = g.D.Disk.watch d }) (record { rows = g.K.Keeper.kept c.args.keeper; faults = g.K.Keeper.fault_count c.args.keeper; watch = g.K.Keeper.watch c.args.keeper }) (record { rows = g.K.Keeper.kept c.in-Ok-opened.parts.keeper; faults = g.K.Keeper.fault_count c.in-Ok-opened.parts.keeper; watch = g.K.Keeper.watch c.in-Ok-opened.parts.keeper }))
    (sym c.in-Ok-opened.ensures.disk)
    (subst (λ k. AreFound c.args.entrance.identity c.args.entrance.check c.in-Ok.opening (record { content = g.D.Disk.content c.args.disk; lent = g.D.Disk.lent c.args.disk; rough = g.D.Disk.rough c.args.disk; faults = g.D.Disk.fault_count c.args.disk; watch = g.D.Disk.watch c.args.disk }) (record { content = g.D.Disk.content c.scan.new.disk; lent = g.D.Disk.lent c.scan.new.disk; rough = g.D.Disk.rough c.scan.new.disk; faults = g.D.Disk.fault_count c.scan.new.disk; watch = g.D.Disk.watch c.scan.new.disk }) (record { rows = g.K.Keeper.kept c.args.keeper; faults = g.K.Keeper.fault_count c.args.keeper; watch = g.K.Keeper.watch c.args.keeper }) (record { rows = g.K.Keeper.kept k; faults = g.K.Keeper.fault_count k; watch = g.K.Keeper.watch k }))
    (sym c.in-Ok-opened.ensures.keeper) (record {
      free = c.in-Ok.ensures.lent ∙ c.requires.none_lent;
      content = c.in-Ok.ensures.content;
      rough = c.in-Ok.ensures.rough;
      checked = c.in-Ok.ensures.checked;
      store = c.in-Ok.ensures.store;
      left = c.in-Ok.ensures.kept;
      unlooked = c.in-Ok.ensures.unlooked;
      gone = c.in-Ok.ensures.gone;
      strays = c.in-Ok.ensures.strays;
    })))
    c.in-Ok-opened.ensures.stands c.in-Ok-opened.ensures.jobs c.in-Ok-opened.ensures.lost
