pub mod Limited
