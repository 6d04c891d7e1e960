use Rattle.std.proofs.Common.{◌++◌, ap}
use Rattle.std.specs.Prelude.{codes, decimal}
use Rattle.auction_terms.specs.Wording.{code_text}
use Rattle.bid_forms.proofs.form_text.FormFault.wording.Goals as goal

pub returns-in-RepeatedPackage : goal.returns-in-RepeatedPackage
returns-in-RepeatedPackage c =
    let case = c.in-RepeatedPackage in
    rw case.is (ap (λ code. (code_text code ++ (codes " at record " ++ decimal case.place)) ++ (codes ", earlier bid " ++ decimal case.earlier)) c.repeated_package.ensures)
