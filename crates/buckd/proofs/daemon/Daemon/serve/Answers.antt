use Rattle.std.proofs.Common.{◌≡◌, ℕ, ◌+◌, length, refl, sym, ap, subst, arith}
use Rattle.mat_model.specs.declared.requests.Asked.TheVariants as asked
use Rattle.mat_model.specs.declared.requests.Request.{Request}
use Rattle.mat_model.specs.Requests.{ensure}
use Rattle.buckd.specs.Daemon.{Steps, book_of}
use Rattle.buckd.specs.Run.{asked_of}
use Rattle.buckd.proofs.Kept.{asked-steps, kept-with}
use Rattle.buckd.proofs.daemon.Daemon.serve.Goals as goal

pub returns-in_ok-enter_asked-in-Ensure-clause-served : goal.returns-in_ok-enter_asked-in-Ensure-clause-served
returns-in_ok-enter_asked-in-Ensure-clause-served c =
    let count = length c.args.self.now.history.items in
    let number : count ≡ 0 + count = omega arith in
    subst (λ (request : Request).
    Steps (asked_of request) c.args.self.now
    (record c.ensure.new.self { history = c.enter_asked-in-Ensure.new.history }) c.in_ok-reply-in-Ensure.reply) (sym c.in-Ensure.is)
    (asked-steps (asked.Ensure c.in-Ensure.command c.in-Ensure.path) c.args.self.now c.ensure.new.self _ c.in_ok-reply-in-Ensure.reply _
    (ap (λ (n : ℕ). ensure n c.in-Ensure.command c.in-Ensure.path (book_of c.args.self.now)) number)
    c.in_ok-reply-in-Ensure.ensures.served refl refl refl c.in_ok-enter_asked-in-Ensure.ensures)

pub returns-in_ok-enter_asked-in-Ensure-clause-kept : goal.returns-in_ok-enter_asked-in-Ensure-clause-kept
returns-in_ok-enter_asked-in-Ensure-clause-kept c =
    kept-with c.ensure.new.self (record c.ensure.new.self { history = c.enter_asked-in-Ensure.new.history }) _
    (record { state = refl; live = refl; rows = refl; methods = refl; disk = refl }) c.in_ok-enter_asked-in-Ensure.ensures c.in_ok-reply-in-Ensure.ensures.kept

pub returns-in_ok-enter_asked-in-Enter-clause-kept : goal.returns-in_ok-enter_asked-in-Enter-clause-kept
returns-in_ok-enter_asked-in-Enter-clause-kept c =
    kept-with c.enter.new.self (record c.enter.new.self { history = c.enter_asked.new.history }) _
    (record { state = refl; live = refl; rows = refl; methods = refl; disk = refl }) c.in_ok-enter_asked-in-Enter.ensures c.in_ok-reply-in-Enter.ensures.kept
