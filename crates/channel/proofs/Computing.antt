-- Every rule that a history runs, open at once: a lemma that computes one says `unfolding rules`.
use Rattle.slots.specs.Time.{ahead, earlier}
use Rattle.rules.specs.Sids.{sid_allowed}
use Rattle.rules.specs.Backoffs.{bad_backoffs}
use Rattle.rules.specs.Rules.{misordered, misplaced, fault_of, advanced, ended_at, walked}
use Rattle.message.specs.Lists.{listed}
use Rattle.message.specs.Element.{word_at}
use Rattle.message.specs.Fields.{fields_of}
use Rattle.message.specs.Map.{intervals, map_length, after_null, grants_to, pendings_to}
use Rattle.message.specs.Reading.{header_fault, read_of}
use Rattle.writer.specs.Writing as writing
use Rattle.station.specs.Records as station
use Rattle.station.specs.Offering as offering
use Rattle.backoff.specs.Steps.{lost, acknowledged, deferred}
use Rattle.hearing.specs.Opportunities.{spaced, contention_in, own_in, contention, own}
use Rattle.hearing.specs.Steps.{granted, passing, offered_own, sending, waiting_since, sent_by}
use Rattle.hearing.specs.Hearing.{stale, hear_fault, ready_phase, quiet_phase, phase_after, request_in, station_after, hearing, hear_of}
use Rattle.headend.specs.Requests.{held_of}
use Rattle.headend.specs.Records as records
use Rattle.issuing.specs.Plan as plan
use Rattle.issuing.specs.Issue.{plan_of, call_fault, issue_fault, moved_to, issued_from, issue_of}
use Rattle.channel.specs.History.{step, after, spent}

unfoldable pub rules : Unit {0}
unfolding ahead earlier sid_allowed bad_backoffs misordered misplaced fault_of advanced ended_at walked listed word_at fields_of intervals map_length after_null grants_to pendings_to header_fault read_of writing.bytes_of writing.header_of writing.elements_of writing.message_of station.bad_phase station.record_fault offering.idle offering.offer_fault offering.offer_of lost acknowledged deferred spaced contention_in own_in contention own granted passing offered_own sending waiting_since sent_by stale hear_fault ready_phase quiet_phase phase_after request_in station_after hearing hear_of held_of records.with_places records.record_fault records.request_fault records.joined records.request_of plan.granted plan.pending plan.total plan.grants plan.pendings plan.elements_of plan_of call_fault issue_fault moved_to issued_from issue_of step after spent
rules = tt
