use Rattle.name_resolve.proofs.Unbroken.{declares_not, looked_at, on_ok}
use Rattle.name_resolve.proofs.one_pass.look_up.Goals as goal

pub returns-in_default : goal.returns-in_default
returns-in_default c =
    let other = declares_not c.args.event.now c.in_default.not-Declares in
    let says = looked_at c.args.now.now c.args.event.now c.args.found.now c.visit.new.found c.visit.result other c.visit.ensures.fault c.visit.ensures.denotes c.visit.ensures.identified in
    record {
      fault = on_ok c.visit.result (λ says behind now done s. (says behind now s).fault) says;
      denotes = on_ok c.visit.result (λ says behind now done s. (says behind now s).denotes) says;
      identified = on_ok c.visit.result (λ says behind now done s. (says behind now s).identified) says;
      more = on_ok c.visit.result (λ says behind done. done) says;
    }
