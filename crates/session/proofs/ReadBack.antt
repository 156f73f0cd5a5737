-- What keeps the rules of images is read back.
use Rattle.image_form.specs.Form.{Form}
use Rattle.image_form.specs.Rules.{IsImage}
use Rattle.image_form.proofs.Complete.{image_read}
use Rattle.session.specs.Images.{IsReadBack}

pub read_back : (f : Form) → IsImage f → IsReadBack f
read_back f is = record { reads = image_read f is; bytes = is.fits.initial }
