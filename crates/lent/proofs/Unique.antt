-- Document 01, "What has to be promised": for each input a contract leaves one possible result and one possible content of everything lent.
-- Each function promises one predicate of what stood there before, what stands there after and the answer: it leaves one content and one answer; and the contract says that predicate and nothing else.
use mathlib.Core.Path.{◌≡◌, refl, sym, ◌∙◌}
use seplogic.Ra.Ura.{Ura}
use base.Logic.{SProp}
use prog.Memory.{Memory}
use prog.Routine.{Routine}
use types.Logic.{Logic}
use contract.Lifetimes.{Lfts}
use contract.Monad.{Fun, fact}
use denote.Triple.Entry.{Args, Res}
use denote.Triple.Clauses.{Ended, AtExit, Clauses}
use Rattle.lent.specs.contracts.in_place.hear_in_place as hear-in-place
use Rattle.lent.specs.contracts.in_place.offer_in_place as offer-in-place
use Rattle.lent.specs.contracts.table.hear_table as hear-table
use Rattle.lent.specs.contracts.forty.hear_forty as hear-forty
use Prim.Native.Nat.{ℕ}
use mathlib.Core.List.{List}
use Rattle.station.specs.declared.record.Station.{Station}
use Rattle.std.specs.Prelude.{Result}
use Rattle.rules.specs.declared.refusal.Reason.{Reason}
use Rattle.rules.specs.declared.refusal.Refusal.{Refusal}
use Rattle.hearing.specs.declared.answer.Answer.{Answer}
use Rattle.lent.specs.declared.forty.Window.{Window}
use Rattle.lent.specs.declared.forty.Forty.{Forty}
use Rattle.lent.specs.InPlace.{HearsInPlace, OffersInPlace}
use Rattle.lent.specs.Table.{HearsTable}
use Rattle.lent.specs.Forty.{window_of, HearsForty}

pub hear_in_place_unique : (before : Station) (bytes : List ℕ) (present draw : ℕ) (after after' : Station) (r r' : Result Answer Refusal) →
    HearsInPlace before bytes present draw after r → HearsInPlace before bytes present draw after' r' → (after ≡ after') × (r ≡ r')
hear_in_place_unique before bytes present draw after after' r r' p q = (p.0 ∙ sym q.0, p.1 ∙ sym q.1)

pub offer_in_place_unique : (before : Station) (size : ℕ) (after after' : Station) (r r' : Result Unit Refusal) →
    OffersInPlace before size after r → OffersInPlace before size after' r' → (after ≡ after') × (r ≡ r')
offer_in_place_unique before size after after' r r' p q = (p.0 ∙ sym q.0, p.1 ∙ sym q.1)

pub hear_table_unique : (bytes : List ℕ) (present : ℕ) (draws : List ℕ) (records : List Station) (places : List ℕ) (after after' : List Station) (at at' : List ℕ) (r r' : Result Unit Reason) →
    HearsTable bytes present draws records places after at r → HearsTable bytes present draws records places after' at' r' → (r ≡ r') × ((after ≡ after') × (at ≡ at'))
hear_table_unique bytes present draws records places after after' at at' r r' p q = (p.0 ∙ sym q.0, (p.1.0 ∙ sym q.1.0, p.1.1 ∙ sym q.1.1))

pub hear_forty_unique : (bytes : List ℕ) (present : ℕ) (draws : List ℕ) (w : Window) (stations : List Station) (places : List ℕ) (at at' : List ℕ) (r r' : Forty) →
    HearsForty bytes present draws w stations places at r → HearsForty bytes present draws w stations places at' r' → (r ≡ r') × (at ≡ at')
hear_forty_unique bytes present draws w stations places at at' r r' p q = (λ i. record { answer = (p.0 ∙ sym q.0) i; stations = (p.1.0 ∙ sym q.1.0) i }, p.1.1 ∙ sym q.1.1)

-- a contract ensures one predicate of the parameters, the result and the parameters at exit
module _ {M : Type 1} (𝓤 : Ura M) (T : Ended) where
  abbrev pub Says : Clauses 𝓤 T → ((κs : Lfts T.signature.lifetimes) → Args T.signature κs → Res T.signature κs → AtExit T κs → Type 0) → Type 2
  Says contract P = (κs : Lfts T.signature.lifetimes) (a : Args T.signature κs) (g : (contract κs a).ghost) (r : Res T.signature κs) (s : AtExit T κs) → (contract κs a).ensures g r s ≡ fact 𝓤 (P κs a r s)

module _ {M : Type 1} {𝓤 : Ura M} (𝓛 : Logic 𝓤) (mem : Memory → SProp 𝓤) (run : Routine → Fun 𝓤) where
  pub hear_in_place_says : Says 𝓤 hear-in-place.ended (hear-in-place.clauses 𝓛 mem run) (λ κs a r s. HearsInPlace a.0.now a.1.0.now a.1.1.0.0 a.1.1.1.0 s.0.now r)
  hear_in_place_says κs a g r s = refl

  pub offer_in_place_says : Says 𝓤 offer-in-place.ended (offer-in-place.clauses 𝓛 mem run) (λ κs a r s. OffersInPlace a.0.now a.1.0 s.0.now r)
  offer_in_place_says κs a g r s = refl

  pub hear_table_says : Says 𝓤 hear-table.ended (hear-table.clauses 𝓛 mem run) (λ κs a r s. HearsTable a.1.0.now a.1.1.0.0 a.1.1.1.0.now a.0.now a.1.1.1.1.0.now s.0.now s.1.1.1.1.0.now r)
  hear_table_says κs a g r s = refl

  pub hear_forty_says : Says 𝓤 hear-forty.ended (hear-forty.clauses 𝓛 mem run) (λ κs a r s. HearsForty a.1.1.1.0.now a.1.1.1.1.0.0 a.1.1.1.1.1.0.now (window_of a.1.0 a.1.1.0) a.0 a.1.1.1.1.1.1.0.now s.1.1.1.1.1.1.0.now r)
  hear_forty_says κs a g r s = refl
