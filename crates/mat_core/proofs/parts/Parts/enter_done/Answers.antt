use Rattle.std.proofs.Common.{rules, ◌≡◌, ◌∙◌, ◌+◌, ◌++◌, ◌∷◌, [], length, refl, ap, subst}
use Rattle.std.specs.Vec.{vec_capacity, vec_len}
use Rattle.mat_model.specs.WorkState.{path_of_task}
use Rattle.mat_core.specs.Ending.{IsTaskEnded, done_entry, end_of, reply_ended}
use Rattle.mat_core.proofs.parts.Parts.enter_done.Goals as goal

pub returns-clause-entered : goal.returns-clause-entered
returns-clause-entered g c = record {
  mid = c.end_task-fresh.new.self;
  ended = subst (λ n. IsTaskEnded (c.args.self.now.first + n) (path_of_task c.args.running.card.task)
      (end_of c.args.self.now.rows c.args.running.card.task c.args.outcome) c.args.how c.args.self.now c.end_task-fresh.new.self)
      (c.len.ensures ∙ (let size : vec_len c.args.self.now.history ≡ length c.args.self.now.history.items = search rules in size)) c.end_task-fresh.ensures.ended;
  only = refl;
  debris = c.end_part.ensures.list;
  spare = c.end_part.ensures.spare;
  history = c.push_reserved.ensures.items
      ∙ ap (λ p. p.history.items ++ done_entry c.args.by p.moment c.args.running.card.job c.args.outcome c.reply_ended.result ∷ [])
      c.end_task-fresh.ensures.ended.only
      ∙ ap (λ r. c.args.self.now.history.items ++ done_entry c.args.by c.args.self.now.moment c.args.running.card.job c.args.outcome r ∷ [])
      (c.reply_ended.ensures ∙ ap (λ b. reply_ended b c.args.how) c.end_task-fresh.ensures.counted);
  capacity = c.push_reserved.ensures.capacity ∙ ap (λ p. vec_capacity p.history) c.end_task-fresh.ensures.ended.only;
}
