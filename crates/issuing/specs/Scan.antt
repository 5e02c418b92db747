-- How the code goes through the held requests; no public promise cites these.
use Rattle.std.specs.Prelude.{ℕ, cond, List, Result, Ok, Err}
use Rattle.rules.specs.declared.refusal.Reason.{Reason}
use Rattle.rules.specs.declared.refusal.Reason.TheVariants.{Selfcheck}
use Rattle.message.specs.Reading.{read_of}
use Rattle.writer.specs.Writing.{message_of, onto}
use Rattle.headend.specs.declared.record.Headend.{Headend}
use Rattle.headend.specs.declared.record.Request.{Request}
use Rattle.issuing.specs.Plan.{elements_of}
use Rattle.issuing.specs.Issue.{plan_fields, refuses}

-- the MAP in which these requests are granted, and those left pending
abbrev pub message_by : Headend → ℕ → ℕ → List Request → List Request → List ℕ
message_by h ack c gs ps = message_of (plan_fields h ack) (elements_of h.short c gs ps)

-- 24 where the reader refuses a message
abbrev pub selfchecked : List ℕ → Result Unit Reason
selfchecked message = cond (refuses (read_of message)) (Err Selfcheck) (Ok tt)

-- what lent bytes hold once a message was copied into them that the reader accepts, or not copied
abbrev pub accepted_into : List ℕ → List ℕ → List ℕ
accepted_into message old = cond (refuses (read_of message)) old (onto message old)
