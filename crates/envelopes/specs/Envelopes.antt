-- What a call upon an envelope and its buckets is checked for, and what it promises, by what they mean.
-- Assumes nothing.
use Rattle.std.specs.Prelude.{◌≡◌, ℕ, List}
use Rattle.tokens.specs.Refusals.{Cause, Told, unless_refused}
use Rattle.envelopes.specs.Drafts.{profile}
use Rattle.envelopes.specs.Histories.{sees}
use Rattle.envelopes.specs.Profiles.{Profile}
use Rattle.envelopes.specs.Promises.{Call, Promise, Seen}
use Rattle.envelopes.specs.declared.envelope.Envelope.{Envelope}

-- the envelope and the buckets that it was handed, whose meaning is given by `volume` and `count`, before and after
abbrev pub Promised : {B : Type 0} → (B → ℕ) → (B → ℕ) → Envelope → List B → Call → Envelope → List B → Type 0
Promised volume count e buckets call e' buckets' =
    Promise (profile e.draft) (sees volume count e.latest.micros buckets) call (sees volume count e'.latest.micros buckets')

-- a check upon an envelope and the buckets that it was handed refuses by the first of these causes that applies, and
-- answers where none does
abbrev pub Checked : {A B : Type 0} → (B → ℕ) → (B → ℕ) → Envelope → List B → (Profile → Seen → List Cause) → Told A → A → Type 0
Checked volume count e buckets causes told answer =
    told ≡ unless_refused (causes (profile e.draft) (sees volume count e.latest.micros buckets)) answer
