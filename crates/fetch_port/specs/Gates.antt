-- A store behind a turnstile, as contracts see it.
use Rattle.fetch_port.specs.declared.gated.Gated.{Gated}

-- the store behind the turnstile
abbrev pub gated_store : {F G : Type 0} → Gated F G → F
gated_store gated = gated.inner

-- the turnstile before it
abbrev pub gated_turnstile : {F G : Type 0} → Gated F G → G
gated_turnstile gated = gated.turnstile
