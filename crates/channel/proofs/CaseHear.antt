-- One station's case, through a MAP that it accepts.
use mathlib.Core.Path.{◌≡◌, refl, ◌∙◌, ap}
use mathlib.Core.Bool.{Bool, true, false, cond}
use mathlib.Core.Logic.{inl, inr}
use mathlib.Core.List.{List, [], ◌∷◌, ◌++◌, Memᴰ}
use Prim.Native.Nat.{ℕ, ◌≤◌, ◌<◌}
use native.Mathlib.Omega.{arith}
use lib.Dec.{leb, eqb}
use borrow.Author.Tests.{eq-eqb, leb-true, le-ltb}
use Rattle.slots.specs.Time.{earlier}
use Rattle.station.specs.declared.record.Phase.TheVariants.{Waiting}
use Rattle.station.specs.declared.record.Station.{Station}
use Rattle.hearing.specs.Hearing.{phase_after, request_in}
use Rattle.hearing.proofs.Heard.{Outcome}
use Rattle.hearing.proofs.Heard.Outcome.{silent, spoke}
use Rattle.headend.specs.declared.record.Request.{Request}
use Rattle.channel.specs.History.{Issue, map_in}
use Rattle.channel.proofs.Timing.{at, earlier_at}
use Rattle.channel.proofs.Keeping.{keep_head, and_right}
use Rattle.channel.proofs.Contents.{Contents}
use Rattle.channel.proofs.Invariant.{length_of, start_of, end_of, heard_to, Window, Chained, Case, Clear, Carried, live}
use Rattle.channel.proofs.Invariant.Case.{quiet, flying, held, granted}
use Rattle.channel.proofs.Chain.{Order, chain_below, chain_order}
use Rattle.channel.proofs.Listening.{chances, sent_on, sent_none, sent_one, Unmoved, heard_clear, heard_early, heard_pending, heard_grant, chance_at}

module _ (B : ℕ) (st : Station) (j : Issue) (draw N a : ℕ) (h F : List Request) (js : List Issue)
    (ch : Chained B N js) (small : N < 2147483648) (mem : Memᴰ j js) (fresh : heard_to B st ≤ start_of B j)
    (older : at B j.ack ≤ a) (early : at B j.ack ≤ start_of B j) (told : Contents j) (single : eqb 0x3FFF st.sid ≡ false) (asks : 1 ≤ st.r) where
  -- the Ack Time is not later than q
  pub not_lost : (q : Request) → at B q.first.0 < N → at B j.ack ≤ at B q.first.0 → earlier 32 q.first.0 j.ack ≡ false
  not_lost q b k = let r = chain_below B N js ch j mem in earlier_at B q.first.0 j.ack (omega arith) (omega arith) ∙ le-ltb _ _ k

  in_time : start_of B j < N
  in_time = let r = chain_below B N js ch j mem in omega arith

  abbrev After : Type 0
  After = Case B st.sid (phase_after st (map_in j) draw) (end_of B j) N h (live B st.sid a (sent_on st (map_in j) draw ++ F)) js

  -- a MAP that carries q leaves the station that waits on it as it was
  pub still_waits : (q : Request) (d exponent retries : ℕ) → st.phase ≡ Waiting exponent retries q.first q.size → at B q.first.0 < N → Carried B st.sid q d j → Unmoved st (map_in j) draw exponent retries q.first q.size
  still_waits q d exponent retries w b (inl (_, c, k)) = heard_early st j draw told exponent retries q.first q.size w c.0 (not_lost q b k)
  still_waits q d exponent retries w b (inr (_, c)) = heard_pending st j draw told exponent retries q.first q.size q w c

  -- nothing of σ's in the MAP, and nothing under way
  clear_after : h ≡ [] → live B st.sid a F ≡ [] → Clear st.sid j → Window B (Clear st.sid) (end_of B j) N js → After
  clear_after hh lf cl w = go (heard_clear st j draw told cl)
    where
      go : Outcome 32 false j.ack (chances st (map_in j)) st.phase (phase_after st (map_in j) draw) (request_in st (map_in j) draw) → After
      go (silent s _) = quiet hh (rw (sent_none st (map_in j) draw s) lf) w
      go (spoke exponent retries time size e s m) = rw (sent_one st (map_in j) draw exponent retries time size e s, eq-eqb st.sid st.sid refl) (go2 (leb a (at B time.0)))
        where
          asked : Request
          asked = record { sid = st.sid; size = size; first = time }

          go2 : (b : Bool) → Case B st.sid (phase_after st (map_in j) draw) (end_of B j) N h (cond b (asked ∷ live B st.sid a F) (live B st.sid a F)) js
          go2 true =
              let r = chain_below B N js ch j mem in
              let c = chance_at B st j told single (omega (arith, told.length)) time.0 m in
              flying asked (exponent, retries, e) hh (ap (λ l. asked ∷ l) lf) (omega (arith, told.length)) w
          go2 false = quiet hh lf w

  pub case_hear : Case B st.sid st.phase (heard_to B st) N h (live B st.sid a F) js → After
  case_hear (quiet hh lf c) = clear_after hh lf (c j mem fresh in_time) (λ k m lo hi. c k m (omega arith) hi)
  case_hear (flying q (x, r, w) hh lf b d) =
      let p = leb-true a (at B q.first.0) (and_right (eqb q.sid st.sid) _ (keep_head _ F q [] lf)) in
      let s = heard_early st j draw told x r q.first q.size w (d j mem fresh in_time).0 (not_lost q b (omega arith)) in
      flying q (x, r, s.0) hh (rw (sent_none st (map_in j) draw s.1) lf) b (λ k m lo hi. d k m (omega arith) hi)
  case_hear (held q d (x, r, w) hh lf b l win) =
      let s = still_waits q d x r w b (win j mem fresh in_time) in
      held q d (x, r, s.0) hh (rw (sent_none st (map_in j) draw s.1) lf) b l (λ k m lo hi. win k m (omega arith) hi)
  case_hear (granted q d g (x, r, w) hh lf b mg at_g gq gp before later) = go (chain_order B N js ch j g mem mg)
    where
      sooner : end_of B j ≤ start_of B g → 1 ≤ length_of j → After
      sooner z l =
          let s = still_waits q d x r w b (before j mem fresh (omega arith)) in
          granted q d g (x, r, s.0) hh (rw (sent_none st (map_in j) draw s.1) lf) b mg z gq gp (λ k m lo hi. before k m (omega arith) hi) later

      go : Order B j g → After
      go (inl z) = let s = heard_grant st j draw told q (rw z gq) (rw z gp) in quiet hh (rw (sent_none st (map_in j) draw s.1) lf) (λ k m lo hi. later k m (rw z at lo) hi)
      go (inr (inl z)) = sooner z (chain_below B N js ch j mem).1
      go (inr (inr z)) = clear_after hh lf (later j mem z in_time) (λ k m lo hi. later k m (omega arith) hi)
