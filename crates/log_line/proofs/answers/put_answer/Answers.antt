-- `log_line::answers::put_answer` meets its contract: an answer for each outcome.
use native.Mathlib.Omega.{arith}
use mathlib.Core.Path.{ap, ◌∙◌}
use Rattle.exchange.specs.declared.types.Outcome.TheVariants.{Fault}
use Rattle.text.proofs.Numerals.{two-bytes}
use Rattle.log_line.proofs.Reporting.{deviates, told}
use Rattle.log_line.proofs.answers.put_answer.Goals as goal

pub returns-in-PositiveResponse : goal.returns-in-PositiveResponse
returns-in-PositiveResponse c =
    told c.args.replies.now c.args.answer c.in-PositiveResponse.is (rw (← c.part-bytes.ensures) c.put_line.ensures)

pub returns-in-Suppressed : goal.returns-in-Suppressed
returns-in-Suppressed c =
    told c.args.replies.now c.args.answer c.in-Suppressed.is c.put_line-in-Suppressed.ensures

pub returns-in-NegativeResponse : goal.returns-in-NegativeResponse
returns-in-NegativeResponse c =
    told c.args.replies.now c.args.answer c.in-NegativeResponse.is c.put_line-in-NegativeResponse.ensures

pub returns-in-Timeout : goal.returns-in-Timeout
returns-in-Timeout c =
    told c.args.replies.now c.args.answer c.in-Timeout.is c.put_line-in-Timeout.ensures

pub returns-in-Disconnected : goal.returns-in-Disconnected
returns-in-Disconnected c =
    told c.args.replies.now c.args.answer c.in-Disconnected.is c.put_line-in-Disconnected.ensures

pub returns-in-Transport : goal.returns-in-Transport
returns-in-Transport c =
    told c.args.replies.now c.args.answer c.in-Transport.is
    (rw (← two-bytes c.in-Transport.error (omega arith), ← c.to_be_bytes.ensures) c.put_line-in-Transport.ensures)

pub returns-in-ProtocolDeviation : goal.returns-in-ProtocolDeviation
returns-in-ProtocolDeviation c =
    let n = deviates c.in-ProtocolDeviation.deviation c.part-reply.result.now in
    told c.args.replies.now c.args.answer (c.in-Fault.is ∙ ap Fault c.in-ProtocolDeviation.is)
    (rw (← c.part-reply.ensures, n.0, n.1, ← c.from-number.ensures) c.put_line-in-ProtocolDeviation.ensures)

pub returns-in-InvalidResponseLength : goal.returns-in-InvalidResponseLength
returns-in-InvalidResponseLength c =
    told c.args.replies.now c.args.answer (c.in-Fault.is ∙ ap Fault c.in-InvalidResponseLength.is) c.put_line-in-InvalidResponseLength.ensures

pub returns-in-BlockLengthOverflow : goal.returns-in-BlockLengthOverflow
returns-in-BlockLengthOverflow c =
    told c.args.replies.now c.args.answer (c.in-Fault.is ∙ ap Fault c.in-BlockLengthOverflow.is)
    (rw (← c.part-reply.ensures) c.put_line-in-BlockLengthOverflow.ensures)

pub returns-in-Refused : goal.returns-in-Refused
returns-in-Refused c =
    told c.args.replies.now c.args.answer c.in-Refused.is c.put_line-in-Refused.ensures

pub returns-in-PendingLimit : goal.returns-in-PendingLimit
returns-in-PendingLimit c =
    told c.args.replies.now c.args.answer c.in-PendingLimit.is c.put_line-in-PendingLimit.ensures
