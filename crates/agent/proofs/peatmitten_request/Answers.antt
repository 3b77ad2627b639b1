-- The numbers make the request, and the core does it where the table lies.
use Rattle.agent.proofs.Answers.{request_told}
use Rattle.agent.proofs.peatmitten_request.Goals as goal

pub returns : goal.returns
returns c =
    request_told _ _ _ _ _ _ _ _ _ _ _ _ _ c.region_from-region.ensures c.make_request-request.ensures c.step_in.ensures
    c.number.ensures
