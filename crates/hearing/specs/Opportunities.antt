-- Document 01, "Opportunities": the first mini-slots at which a station may send a request, in order.
use Rattle.std.specs.Prelude.{ℕ, zero, suc, ◌+◌, ◌-◌, ◌/◌, cond, ◌&&◌, List, [], ◌∷◌, map, leb, ltb, eqb}
use Rattle.rules.specs.Sids.{within}
use Rattle.message.specs.Lists.{gather}
use Rattle.message.specs.Map.{Map, Interval, intervals, time_at}

-- count offsets, step apart, from first on
unfoldable pub spaced : ℕ → ℕ → ℕ → List ℕ
spaced first step zero = []
spaced first step (suc count) = first ∷ spaced (first + step) step count

-- "In an interval of length K: broadcast Request (0x3FFF) gives floor(K / r) contention opportunities, r apart;
--  Request/Data with SID 0x3FF0 + N gives floor(K / N), N apart, and none if r > N"
unfoldable pub contention_in : ℕ → Interval → List ℕ
contention_in r k =
    let N = k.sid - 0x3FF0 in
    cond (eqb k.iuc 1 && eqb k.sid 0x3FFF) (spaced k.first r (k.length / r))
    (cond (eqb k.iuc 2 && within 0x3FF1 0x3FFE k.sid) (cond (ltb N r) [] (spaced k.first N (k.length / N)))
    [])

-- "a Request to the station's own SID gives one, at its start, if K is at least r"
unfoldable pub own_in : ℕ → ℕ → Interval → List ℕ
own_in sid r k = cond (eqb k.iuc 1 && eqb k.sid sid && leb r k.length) (k.first ∷ []) []

unfoldable pub contention : ℕ → Map → List ℕ
contention r m = map (time_at m) (gather (contention_in r) (intervals m.elements))

unfoldable pub own : ℕ → ℕ → Map → List ℕ
own sid r m = map (time_at m) (gather (own_in sid r) (intervals m.elements))
