-- Forty records by value, of which `count` from `first` on are lent as a table.
use Rattle.std.specs.Prelude.{ℕ, ◌+◌, ◌-◌, ◌≡◌, cond, List, ◌++◌, ltb, take, drop}
use Rattle.station.specs.declared.record.Station.{Station}
use Rattle.lent.specs.declared.forty.Window.{Window}
use Rattle.lent.specs.declared.forty.Forty.{Forty}
use Rattle.lent.specs.Table.{answer_of, table_of, places_of}

-- a part that is not within the forty stands for all of them: the table's own 17, and nothing changes
unfoldable pub window_of : ℕ → ℕ → Window
window_of first count =
    cond (ltb 40 first) (record { from = 0; to = 40 })
    (cond (ltb (40 - first) count) (record { from = 0; to = 40 }) (record { from = first; to = first + count }))

abbrev pub lent_of : Window → List Station → List Station
lent_of w stations = take (w.to - w.from) (drop w.from stations)

module _ (bytes : List ℕ) (present : ℕ) (draws : List ℕ) (w : Window) (stations : List Station) (places : List ℕ) where
  abbrev pub forty_after : List Station
  forty_after = take w.from stations ++ (table_of bytes present draws (lent_of w stations) places ++ drop (w.to - w.from) (drop w.from stations))

  abbrev pub HearsForty : List ℕ → Forty → Type 0
  HearsForty places' r = (r.answer ≡ answer_of bytes present draws (lent_of w stations) places) × ((r.stations ≡ forty_after) × (places' ≡ places_of bytes present draws (lent_of w stations) places))
