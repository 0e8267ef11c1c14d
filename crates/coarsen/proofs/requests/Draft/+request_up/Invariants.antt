use Rattle.coarsen.proofs.Parents.{depth}
use Rattle.coarsen.proofs.requests.Draft.+request_up.Given as goal

-- how many ancestors are left
abbrev pub decreases-request_up : goal.decreases-request_up
decreases-request_up l = depth l.resource
