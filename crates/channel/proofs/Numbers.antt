-- The numbers marked P hold: one theorem over the table.
use mathlib.Core.Path.{◌≡◌, refl}
use mathlib.Core.Bool.{true}
use Rattle.slots.specs.Begins.{begins_at}
use Rattle.slots.specs.Span.{within, qualifies, further, furthest, span_from, span_of}
use Rattle.channel.specs.Numbers.{table, all_hold}
use Rattle.channel.proofs.Computing.{rules}

pub numbers : all_hold table ≡ true
unfolding table rules begins_at within qualifies further furthest span_from span_of
numbers = refl
