-- A station's record as twelve numbers, for C: SID, channel, UCD count, r, whether an end is known (0 or 1), that end, the state (0 Idle, 1 Wanting, 2 Deferring, 3 Waiting), size, exponent, opportunities left, retries, request time.
use Rattle.std.specs.Prelude.{ℕ, Bool, cond, ◌||◌, List, [], ◌∷◌, ltb, eqb, get_or, Option, Some, None}
use Rattle.slots.specs.declared.time.MiniSlot.{MiniSlot}
use Rattle.station.specs.declared.record.Phase.{Phase}
use Rattle.station.specs.declared.record.Phase.TheVariants.{Idle, Wanting, Deferring, Waiting}
use Rattle.station.specs.declared.record.Station.{Station}
use Rattle.firmware.specs.declared.layout.Parts.{Parts}

abbrev pub known : Option MiniSlot → ℕ
known None = 0
known (Some time) = 1

abbrev pub end_in : Option MiniSlot → ℕ
end_in None = 0
end_in (Some time) = time.0

-- fields that a state doesn't have are 0 going out ..
abbrev pub undeferred : ℕ → ℕ → Parts
undeferred state size = record { state = state; size = size; exponent = 0; left = 0; retries = 0; time = 0 }

abbrev pub parts_of : Phase → Parts
parts_of Idle = undeferred 0 0
parts_of (Wanting size) = undeferred 1 size
parts_of (Deferring exponent left retries size) = record { state = 2; size = size; exponent = exponent; left = left; retries = retries; time = 0 }
parts_of (Waiting exponent retries time size) = record { state = 3; size = size; exponent = exponent; left = 0; retries = retries; time = time.0 }

abbrev pub laid : Station → Parts → List ℕ
laid st p = st.sid ∷ st.channel ∷ st.count ∷ st.r ∷ known st.end ∷ end_in st.end ∷ p.state ∷ p.size ∷ p.exponent ∷ p.left ∷ p.retries ∷ p.time ∷ []

abbrev pub numbers_of : Station → List ℕ
numbers_of st = laid st (parts_of st.phase)

-- .. and ignored coming in
unfoldable pub remembered : ℕ → ℕ → Option MiniSlot
remembered k end = cond (eqb k 0) None (Some (record { 0 = end }))

unfoldable pub phase_of : Parts → Phase
phase_of p =
    cond (eqb p.state 0) Idle
    (cond (eqb p.state 1) (Wanting p.size)
    (cond (eqb p.state 2) (Deferring p.exponent p.left p.retries p.size) (Waiting p.exponent p.retries (record { 0 = p.time }) p.size)))

abbrev pub parts_in : List ℕ → Parts
parts_in ns = record { state = get_or ns 6 0; size = get_or ns 7 0; exponent = get_or ns 8 0; left = get_or ns 9 0; retries = get_or ns 10 0; time = get_or ns 11 0 }

-- no record: a channel or a count of more than a byte, a flag that isn't 0 or 1, a state number outside 0..3
unfoldable pub out_of_range : List ℕ → Bool
out_of_range ns = ltb 255 (get_or ns 1 0) || ltb 255 (get_or ns 2 0) || ltb 1 (get_or ns 4 0) || ltb 3 (get_or ns 6 0)

abbrev pub station_of : List ℕ → Station
station_of ns = record {
  sid = get_or ns 0 0;
  channel = get_or ns 1 0;
  count = get_or ns 2 0;
  r = get_or ns 3 0;
  end = remembered (get_or ns 4 0) (get_or ns 5 0);
  phase = phase_of (parts_in ns);
}
