pub mod Under
