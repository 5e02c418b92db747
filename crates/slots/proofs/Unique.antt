-- Document 01, "What has to be promised": for each input a contract leaves one possible result.
use Rattle.std.proofs.Common.{◌≡◌, sym, ◌∙◌}
use Rattle.slots.proofs.time.MiniSlot.ahead.Reads as ahead
use Rattle.slots.proofs.time.MiniSlot.earlier.Reads as earlier
use Rattle.slots.proofs.time.MiniSlot.moved_on.Reads as moved_on
use Rattle.slots.proofs.time.MiniSlot.begins.Reads as begins
use Rattle.slots.proofs.span.Span.new.Reads as new
use Rattle.slots.proofs.span.Span.add.Reads as add

-- any two results of which the contract's ensures holds, whatever the parameters are at exit, are the same
abbrev pub One : {K : Type 0} {A R S : K → Type 0} → ((κs : K) → A κs → R κs → S κs → Type 0) → Type 0
One {K} {A} {R} {S} Post = (κs : K) (a : A κs) (r r' : R κs) (s s' : S κs) → Post κs a r s → Post κs a r' s' → r ≡ r'

pub ahead_unique : One ahead.Post
ahead_unique κs a r r' s s' p q = p ∙ sym q

pub earlier_unique : One earlier.Post
earlier_unique κs a r r' s s' p q = p ∙ sym q

-- the ensures says what its one field is
pub moved_on_unique : One moved_on.Post
moved_on_unique κs a r r' s s' p q = λ i. record { 0 = (p ∙ sym q) i }

pub begins_unique : One begins.Post
begins_unique κs a r r' s s' p q = p.0 ∙ sym q.0

pub new_unique : One new.Post
new_unique κs a r r' s s' p q = p ∙ sym q

pub add_unique : One add.Post
add_unique κs a r r' s s' p q = p ∙ sym q
