-- Document 01, "The station": of the four steps of an accepted MAP, the second and the third.
use Rattle.std.specs.Prelude.{ℕ, ◌+◌, Bool, cond, ltb}
use Rattle.slots.specs.Time.{earlier}
use Rattle.rules.specs.declared.fields.Fields.{Fields}
use Rattle.station.specs.declared.record.Phase.{Phase}
use Rattle.station.specs.declared.record.Phase.TheVariants.{Idle, Wanting, Deferring, Waiting}
use Rattle.backoff.specs.Backoffs.{first_exponent, next_exponent, drawn}

-- 2. "lost if its request time is earlier than the Ack Time: retries goes up by 1; above 16 the packet is dropped and the station is Idle; else the exponent becomes .. and the station is Deferring draw mod 2^exponent opportunities"
unfoldable pub lost : Fields → ℕ → ℕ → ℕ → ℕ → Phase
lost f draw exponent retries size =
    cond (ltb 16 (retries + 1)) Idle
    (Deferring (next_exponent f exponent) (drawn draw (next_exponent f exponent)) (retries + 1) size)

-- .. "Waiting with a pending stays as it is."
unfoldable pub acknowledged : ℕ → Bool → Fields → ℕ → Phase → Phase
acknowledged w pending f draw Idle = Idle
acknowledged w pending f draw (Wanting size) = Wanting size
acknowledged w pending f draw (Deferring exponent left retries size) = Deferring exponent left retries size
acknowledged w pending f draw (Waiting exponent retries time size) =
    cond pending (Waiting exponent retries time size)
    (cond (earlier w time.0 f.ack.0) (lost f draw exponent retries size) (Waiting exponent retries time size))

-- 3. "Wanting becomes Deferring, exponent data backoff start, draw likewise."
unfoldable pub deferred : Fields → ℕ → Phase → Phase
deferred f draw Idle = Idle
deferred f draw (Wanting size) = Deferring (first_exponent f) (drawn draw (first_exponent f)) 0 size
deferred f draw (Deferring exponent left retries size) = Deferring exponent left retries size
deferred f draw (Waiting exponent retries time size) = Waiting exponent retries time size
