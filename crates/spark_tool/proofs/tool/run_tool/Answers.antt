use Rattle.std.proofs.Common.{◌∙◌, sym, ap, Err}
use Rattle.spark_tool.specs.declared.stop.Stop.{Stop}
use Rattle.spark_tool.proofs.Complete.{stop_delivers}
use Rattle.spark_tool.proofs.Outcomes.{read_stop}
use Rattle.spark_tool.proofs.tool.run_tool.Goals as goal

pub returns-in-Err-clause-complete : goal.returns-in-Err-clause-complete
returns-in-Err-clause-complete g c files_stay input_stays out_stays err_stays memory =
    stop_delivers c.in-Err.stop _ _ _ _ _ _ _ _ _ _ _ _ _ c.status.ensures files_stay input_stays out_stays err_stays memory
    (λ e. c.in-Err.ensures.read (ap (λ (s : Stop). Err s) e)) (λ e. c.in-Err.ensures.write (ap (λ (s : Stop). Err s) e))
    (λ e. c.in-Err.ensures.nothing (ap (λ (s : Stop). Err s) e))

pub returns-in-Err-clause-read_fault : goal.returns-in-Err-clause-read_fault
returns-in-Err-clause-read_fault g c is =
    c.in-Err.ensures.read (ap (λ (s : Stop). Err s) (read_stop c.in-Err.stop (sym c.status.ensures ∙ is)))
