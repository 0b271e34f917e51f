use Rattle.std.proofs.Common.{◌≡◌, ℕ, List, Result, Ok, Err, IfOk, sym, subst}
use Rattle.std.specs.declared.vec.Vec.{Vec}
use Rattle.std.specs.declared.alloc.Global.{Global}
use Rattle.reapi_dir.specs.declared.message.DirMessage.{DirMessage}
use Rattle.reapi_dir.specs.Grammar.{IsMessage, Spells}
use Rattle.reapi_dir.specs.Spelling.{spelled}
use Rattle.reapi_dir.proofs.MessageBack.{text_spells}
use Rattle.reapi_dir.proofs.write.write_dir.Goals as goal

-- bytes that are the text of a message spell it
spells_back : {E : Type 0} (r : Result (Vec ℕ Global) E) (message : DirMessage) → IfOk r (λ bytes. bytes.items ≡ spelled message) → IsMessage message →
    IfOk r (λ bytes. Spells bytes.items message)
spells_back (Ok bytes) message is rules = subst (λ (text : List ℕ). Spells text message) (sym is) (text_spells message rules)
spells_back (Err e) message is rules = tt

pub returns-clause-back : goal.returns-clause-back
returns-clause-back c = λ rules. spells_back c.write_all.result c.args.message.now c.write_all.ensures rules
