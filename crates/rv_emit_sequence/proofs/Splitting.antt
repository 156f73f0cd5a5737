-- Lists of which the first element is taken.
use Rattle.base_laws.proofs.Lists.{rest_is}
pub use Rattle.base_laws.proofs.Lists.{whole_is as split_first}
