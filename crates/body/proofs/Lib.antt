pub mod OkOr
