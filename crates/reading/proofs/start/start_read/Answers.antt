use borrow.Author.Tests.{lt-ltb}
use Rattle.lists.proofs.Every.{every-from}
use Rattle.session.proofs.Typed.{session-shape}
use Rattle.receiver.specs.Model.{is_byte}
use Rattle.reading.proofs.start.start_read.Goals as goal

pub returns : goal.returns
returns c =
    record {
      sound = c.tables_and_record_ok-sound.ensures;
      taken = c.take_piece-part.ensures;
      asks = c.ask_part-asked.ensures;
      session = session-shape c.args.session _ c.well_formed.0;
      bytes = every-from is_byte c.args.piece.now 0 (λ i l. lt-ltb _ 256 (c.type_inv.piece i).fits);
    }
