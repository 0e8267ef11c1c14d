-- Jobs may go to other threads, type by type.
use denote.Param.Send.{IsSend, IsSync, sendable}
use denote.Ref.{NamedLft}
use Rattle.std.proofs.Crossing.{crosses}
use Rattle.std.proofs.MapsCrossing as maps
use Rattle.catalogue.proofs.catalogue.Catalogue.TheSendSync as catalogue
use Rattle.values.proofs.name.TableNo.TheSendSync as table_no
use Rattle.values.proofs.value.Value.TheSendSync as value
use Rattle.proclang_types.proofs.expression.TextExpr.TheSendSync as text_expr
use Rattle.proclang_types.proofs.procedure.Param.TheSendSync as param
use Rattle.proclang_types.proofs.right.Right.TheSendSync as right
use Rattle.interp.proofs.entry.Footing.TheSendSync as footing
use Rattle.proclang_types.proofs.expression.IntExpr.TheLaws.TheKnot as int_expr
use Rattle.proclang_types.proofs.statement.Stmt.TheLaws.TheKnot as stmt
use Rattle.interp.specs.contracts.entry.Entry as entry
use Rattle.values.proofs.name.RowName.TheSendSync as row_name
use Rattle.values.proofs.row.Row.TheSendSync as row
use Rattle.footprint.proofs.resource.Resource.TheSendSync as resource
use Rattle.meaning.proofs.outcome.Outcome.TheSendSync as outcome
use Rattle.shelves.proofs.contents.Contents.TheSendSync as contents
use Rattle.row_store.specs.contracts.loan.Loan as loan
use Rattle.scheduler.specs.contracts.job.Job as job
use Rattle.scheduler.specs.contracts.job.Done as done
use Rattle.atomic_table.proofs.shared.Seat.TheSendSync as seat
use Rattle.hand_off.proofs.view.Load.TheSendSync as load
use Rattle.hand_off.proofs.view.LaneTable.TheSendSync as lane_table
use Rattle.std.proofs.option.Option.TheSendSync as option
use Rattle.lanes.specs.contracts.seats.WorkerSeat as worker_seat
use Rattle.lanes.specs.contracts.table.Lanes as lanes
use Rattle.dispatcher.specs.contracts.worker.Worker as worker
use Rattle.std.proofs.sync.atomic.AtomicBool.TheSendSync as flag
use Rattle.proclang_types.proofs.expression.BoolExpr.TheLaws.TheKnot as bool_expr
use Rattle.proclang_types.proofs.operator.IntOperator.TheSendSync as operator
use Rattle.proclang_types.proofs.operator.Comparison.TheSendSync as comparison
use Rattle.proclang_types.proofs.operator.Equality.TheSendSync as equality
use Rattle.proclang_types.specs.contracts.expression.IntExpr as int_expression
use Rattle.proclang_types.specs.contracts.expression.BoolExpr as bool_expression
use Rattle.proclang_types.specs.contracts.expression.ValueExpr as value_expression
use Rattle.proclang_types.specs.contracts.statement.FootprintEntry as footprint_entry
use Rattle.proclang_types.specs.contracts.statement.Stmt as statement
use Rattle.proclang_types.specs.contracts.procedure.Proc as procedure
use Rattle.requests.specs.contracts.request.Request as request

int_expr_field_send : IsSend (int_expression.the_field).row
int_expr_field_send = search (sendable, crosses, table_no.the_send, operator.the_field_send, int_expr.send-IntExpr) depth 30

bool_expr_field_send : IsSend (bool_expression.the_field).row
bool_expr_field_send = search (sendable, crosses, table_no.the_send, comparison.the_field_send, equality.the_field_send, text_expr.the_field_send, int_expr_field_send, bool_expr.send-BoolExpr) depth 30

value_expr_send : IsSend value_expression.the_row
value_expr_send = search (sendable, crosses, text_expr.the_field_send, int_expr_field_send) depth 30

value_expr_field_send : IsSend (value_expression.the_field).row
value_expr_field_send = search (sendable, crosses, text_expr.the_field_send, int_expr_field_send) depth 30

statement_send : IsSend statement.the_row
statement_send = search (sendable, crosses, maps.crosses, table_no.the_send, int_expr_field_send, bool_expr_field_send, value_expr_send, value_expr_field_send, stmt.send-Stmt) depth 30

declared_entry_send : IsSend footprint_entry.the_row
declared_entry_send = search (sendable, crosses, table_no.the_send, right.the_field_send, int_expr_field_send) depth 30

int_expr_field_sync : IsSync (int_expression.the_field).row
int_expr_field_sync = search (sendable, crosses, table_no.the_sync, operator.the_field_sync, int_expr.sync-IntExpr) depth 30

bool_expr_field_sync : IsSync (bool_expression.the_field).row
bool_expr_field_sync = search (sendable, crosses, table_no.the_sync, comparison.the_field_sync, equality.the_field_sync, text_expr.the_field_sync, int_expr_field_sync, bool_expr.sync-BoolExpr) depth 30

value_expr_sync : IsSync value_expression.the_row
value_expr_sync = search (sendable, crosses, text_expr.the_field_sync, int_expr_field_sync) depth 30

value_expr_field_sync : IsSync (value_expression.the_field).row
value_expr_field_sync = search (sendable, crosses, text_expr.the_field_sync, int_expr_field_sync) depth 30

statement_sync : IsSync statement.the_row
statement_sync = search (sendable, crosses, maps.crosses, table_no.the_sync, int_expr_field_sync, bool_expr_field_sync, value_expr_sync, value_expr_field_sync, stmt.sync-Stmt) depth 30

declared_entry_sync : IsSync footprint_entry.the_row
declared_entry_sync = search (sendable, crosses, table_no.the_sync, right.the_field_sync, int_expr_field_sync) depth 30

procedure_send : IsSend procedure.the_row
procedure_send = search (sendable, crosses, catalogue.the_send, param.the_send, param.the_sync, statement_send, statement_sync, declared_entry_send, declared_entry_sync) depth 30

procedure_sync : IsSync procedure.the_row
procedure_sync = search (sendable, crosses, catalogue.the_sync, param.the_send, param.the_sync, statement_send, statement_sync, declared_entry_send, declared_entry_sync) depth 30

request_send : IsSend request.the_row
request_send = search (sendable, crosses, value.the_send, procedure_send, procedure_sync) depth 30

request_sync : IsSync request.the_row
request_sync = search (sendable, crosses, value.the_sync, procedure_send, procedure_sync) depth 30

entry_send : IsSend entry.the_row
entry_send = search (sendable, crosses, footing.the_field_send, footing.the_field_sync, request_send, request_sync) depth 30

loan_send : IsSend loan.the_row
loan_send = search (sendable, crosses, maps.crosses, catalogue.the_send, row_name.the_send, row.the_send, row.the_sync, resource.the_send, contents.the_field_send) depth 30

job_send : IsSend job.the_row
job_send = search (sendable, crosses, entry_send, loan_send) depth 30

done_send : IsSend done.the_row
done_send = search (sendable, crosses, job_send, outcome.the_send) depth 30

-- a worker's seat may go to a thread
pub worker_seat_send : IsSend worker_seat.the_row
worker_seat_send = search (sendable, crosses, seat.the_send, load.the_send, load.the_field_send, option.the_send, option.the_field_send, job_send, done_send) depth 30

-- and threads may share the lanes
pub lanes_sync : IsSync lanes.the_row
lanes_sync = search (sendable, crosses, lane_table.the_field_sync, load.the_send, load.the_field_send, option.the_send, option.the_field_send, job_send, done_send) depth 30

-- a worker may go to a thread
pub worker_send : (a b : NamedLft) → IsSend (worker.the_row a b)
worker_send a b = search (sendable, crosses, flag.the_sync, worker_seat_send, lanes_sync) depth 30
