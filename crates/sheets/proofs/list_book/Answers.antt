-- `sheets::list_book` meets its contract.
use Rattle.sheets.proofs.Lists.{made_listed, refused_listed}
use Rattle.sheets.proofs.list_book.Goals as goal

pub returns-in-Ok : goal.returns-in-Ok
returns-in-Ok c = made_listed c.make_est_times-sheet.ensures c.in-Ok.is c.list_sheet.ensures

pub returns-in-Err : goal.returns-in-Err
returns-in-Err c = refused_listed c.make_est_times-sheet.ensures c.in-Err.is (rw (← c.into.ensures) c.list_refused.ensures)
