-- Histories: any calls, some of them refused, upon one envelope and its buckets of some kind. Assumes nothing.
use Rattle.std.specs.Prelude.{◌≡◌, ℕ, ◌+◌, Bool, true, false, cond, not, ◌&&◌, ◌||◌, List, [], ◌∷◌, ◌++◌, map, ◌==◌}
use Rattle.tokens.specs.Refusals.{Told, answered, refused}
use Rattle.envelopes.specs.Profiles.{Profile}
use Rattle.envelopes.specs.Promises.{Call, Promise, Seen, advance, fill, judge, read}
use Rattle.envelopes.specs.declared.colour.Colour.{Colour}
use Rattle.envelopes.specs.declared.colour.Request.{Request}

-- a kind of bucket, by what its buckets mean in grains
pub record Kind (B : Type 0) : Type 0 where
  pub volume : B → ℕ
  pub count : B → ℕ

-- a bucket of no kind but its meaning; what holds of these holds of every kind, by what its buckets mean
pub record Meant : Type 0 where
  pub volume : ℕ
  pub count : ℕ

abbrev pub by_meaning : Kind Meant
by_meaning = record { volume = λ b. b.volume; count = λ b. b.count }

-- an envelope's latest moment, and the buckets that a call is handed
pub record Handed (B : Type 0) : Type 0 where
  pub latest : ℕ
  pub buckets : List B

abbrev pub seen : {B : Type 0} → Kind B → Handed B → Seen
seen kind h =
    record { latest = h.latest; volumes = map kind.volume h.buckets; counts = map kind.count h.buckets }

-- what a call sees of buckets that mean such volumes and counts
abbrev pub sees : {B : Type 0} → (B → ℕ) → (B → ℕ) → ℕ → List B → Seen
sees volume count latest buckets =
    seen (record { volume = volume; count = count }) (record { latest = latest; buckets = buckets })

-- a call with what it told, and what it was handed before and after
pub record Event (B : Type 0) : Type 0 where
  pub call : Call
  pub before : Handed B
  pub after : Handed B

abbrev pub calls : {B : Type 0} → List (Event B) → List Call
calls es = map (λ e. e.call) es

-- a call is accepted where it is not refused
abbrev pub is_answer : {A : Type 0} → Told A → Bool
is_answer (answered a) = true
is_answer (refused number) = false

abbrev pub accepted : Call → Bool
accepted (fill told) = is_answer told
accepted (judge q told) = is_answer told
accepted (advance moment told) = is_answer told
accepted (read rank told) = is_answer told

abbrev pub accepted_fill : Call → Bool
accepted_fill (fill told) = is_answer told
accepted_fill (judge q told) = false
accepted_fill (advance moment told) = false
accepted_fill (read rank told) = false

-- an event keeps its promise and follows upon what the last accepted call left: the envelope is the same, and so are
-- the buckets where the call is accepted; a refused call may have been handed any
pub record Follows {B : Type 0} (kind : Kind B) (p : Profile) (now : Seen) (e : Event B) : Type 0 where
  pub keeps : Promise p (seen kind e.before) e.call (seen kind e.after)
  pub same_envelope : e.before.latest ≡ now.latest
  pub same_buckets : accepted e.call ≡ true → seen kind e.before ≡ now

-- events that follow one upon the other
abbrev pub Run : {B : Type 0} → Kind B → Profile → Seen → List (Event B) → Type 0
Run kind p now [] = Unit {0}
Run kind p now (e ∷ es) =
    Follows kind p now e × Run kind p (cond (accepted e.call) (seen kind e.after) now) es

-- an envelope just opened, and buckets that may hold anything
abbrev pub opened : {B : Type 0} → Kind B → List B → Seen
opened kind buckets = seen kind (record { latest = 0; buckets = buckets })

-- Of the calls of a history.

-- no element passes a test; the elements that do
abbrev pub none : {A : Type 0} → (A → Bool) → List A → Bool
none f [] = true
none f (a ∷ as') = not (f a) && none f as'

abbrev pub those : {A : Type 0} → (A → Bool) → List A → List A
those f [] = []
those f (a ∷ as') = cond (f a) (a ∷ those f as') (those f as')

-- an accepted request, and the colour that it was given
pub record Verdict : Type 0 where
  pub request : Request
  pub given : Colour

abbrev pub verdict : Call → List Verdict
verdict (fill told) = []
verdict (judge q (answered given)) = record { request = q; given = given } ∷ []
verdict (judge q (refused number)) = []
verdict (advance moment told) = []
verdict (read rank told) = []

abbrev pub verdicts : List Call → List Verdict
verdicts [] = []
verdicts (c ∷ cs) = verdict c ++ verdicts cs

-- the tokens of the requests that a test picks
abbrev pub tokens : (Verdict → Bool) → List Verdict → ℕ
tokens f [] = 0
tokens f (v ∷ vs) = cond (f v) v.request.tokens 0 + tokens f vs

-- the moments of accepted requests and advances
abbrev pub moment : Call → List ℕ
moment (fill told) = []
moment (judge q (answered given)) = q.moment ∷ []
moment (judge q (refused number)) = []
moment (advance t (answered done)) = t ∷ []
moment (advance t (refused number)) = []
moment (read rank told) = []

abbrev pub moments : List Call → List ℕ
moments [] = []
moments (c ∷ cs) = moment c ++ moments cs

-- a number is in a list
abbrev pub among : ℕ → List ℕ → Bool
among n [] = false
among n (m ∷ ms) = n == m || among n ms
