use Rattle.std.proofs.Common.{◌≡◌, ◌++◌, drop, string_bytes}
use Rattle.report_text.specs.PlanTexts.{request_lines}
use Rattle.report_text.proofs.plan_lines.push_requests.Given as goal

-- with the requests that are left the text is the whole one
abbrev pub invariant-loop-request : goal.invariant-loop-request
invariant-loop-request l = string_bytes l.text ++ request_lines l.catalogue l.no (drop l.request-index l.requests) ≡ string_bytes l.initial.text ++ request_lines l.catalogue l.no l.requests
