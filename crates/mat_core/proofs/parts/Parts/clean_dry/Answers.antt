use Rattle.mat_core.proofs.CleanGoals.{dry_so}
use Rattle.mat_core.proofs.parts.Parts.clean_dry.Goals as goal

pub returns : goal.returns
returns g c point stands rules roomy =
    dry_so g.K.Keeper c.args.by c.args.now c.args.cutoff c.in-Ok.reply c.in-Ok-copy.told c.args.self.now c.enter_asked.new.self point stands rules roomy
    c.requires.reserves c.requires.place c.requires.room c.in-Ok.ensures c.in-Ok-copy.ensures.ok c.enter_asked.ensures
