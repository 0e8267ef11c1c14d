-- The session's end is that of what lies at the handle.
use Rattle.std.proofs.Common.{subst}
use Rattle.session.specs.Sessions.{EndsWhole, KeepsWaitingAtEnd}
use Rattle.calvin_c.specs.declared.opened.Opened.{Opened}
use Rattle.calvin_c.proofs.lines.calvin_c_end.Goals as goal

pub returns-in-Ok-clause-whole : goal.returns-in-Ok-clause-whole
returns-in-Ok-clause-whole c = λ told. (c.in-Ok.field-0, subst (λ (x : Opened). EndsWhole x.session c.end.new.self c.in-Ok.field-0) c.opened.ensures.value c.in-Ok.ensures.whole)

pub returns-in-Ok-clause-kept : goal.returns-in-Ok-clause-kept
returns-in-Ok-clause-kept c = subst (λ (x : Opened). KeepsWaitingAtEnd x.session c.end.new.self) c.opened.ensures.value c.end.ensures.kept

pub returns-in-Err-clause-kept : goal.returns-in-Err-clause-kept
returns-in-Err-clause-kept c = subst (λ (x : Opened). KeepsWaitingAtEnd x.session c.end.new.self) c.opened.ensures.value c.end.ensures.kept
