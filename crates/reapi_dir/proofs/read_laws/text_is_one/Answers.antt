use Rattle.reapi_dir.proofs.MessageBack.{spells_rules, spells_text, text_spells}
use Rattle.reapi_dir.proofs.read_laws.text_is_one.Goals as goal

pub returns : goal.returns
returns c = record { text = spells_text; rules = spells_rules; back = text_spells }
